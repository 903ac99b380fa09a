-- Evidence: one outcome. Whatever a contract allows for the same arguments is one and the same answer; a list has every public function (crates/demands/proofs, Outcomes.antt, and Lent.antt for what is lent as a record).
use Rattle.std.specs.Prelude.{◌≡◌}

-- a contract says of lifetimes, arguments, an answer and the arguments at exit whether they are allowed
abbrev pub OneOutcome : {Lives Args Answer Exit : Type 0} → (Lives → Args → Answer → Exit → Type 0) → Type 0
OneOutcome {Lives} {Args} {Answer} {Exit} Allows = (lives : Lives) (args : Args) (one other : Answer) (here there : Exit) → Allows lives args one here → Allows lives args other there → one ≡ other

-- and so is what a lent buffer holds afterwards
abbrev pub OneOutcomeLent : {Lives Args Answer Exit Held : Type 0} → (Exit → Held) → (Lives → Args → Answer → Exit → Type 0) → Type 0
OneOutcomeLent {Lives} {Args} {Answer} {Exit} held Allows = (lives : Lives) (args : Args) (one other : Answer) (here there : Exit) → Allows lives args one here → Allows lives args other there → (one ≡ other) × (held here ≡ held there)
