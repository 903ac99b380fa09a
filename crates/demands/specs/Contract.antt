-- Believed: what is said of a public function's contract. Whatever it allows has a property, or is what a definition gives.
use Rattle.std.specs.Prelude.{◌≡◌}

-- a contract says of lifetimes, arguments, an answer and the arguments at exit whether they are allowed: here it allows this answer for these arguments
abbrev pub Allowed : {Lives Args Answer Exit : Type 0} → (Lives → Args → Answer → Exit → Type 0) → Args → Answer → Type 0
Allowed {Lives} {Args} {Answer} {Exit} Allows args answer = (lives : Lives) × (exit : Exit) × Allows lives args answer exit

-- whatever answer it allows for these arguments is such, and so is what a lent buffer then holds
abbrev pub Every : {Lives Args Answer Exit : Type 0} → (Lives → Args → Answer → Exit → Type 0) → Args → (Answer → Type 0) → Type 0
Every {Answer = Answer} Allows args Such = (answer : Answer) → Allowed Allows args answer → Such answer

abbrev pub EveryLent : {Lives Args Answer Exit Held : Type 0} → (Exit → Held) → (Lives → Args → Answer → Exit → Type 0) → Args → (Answer → Held → Type 0) → Type 0
EveryLent {Lives} {Args} {Answer} {Exit} held Allows args Such = (lives : Lives) (answer : Answer) (exit : Exit) → Allows lives args answer exit → Such answer (held exit)

-- whatever it allows is what a definition gives of its arguments: none, one, two, ..
abbrev pub Gives : {Lives Answer Exit : Type 0} → (Lives → Unit {0} → Answer → Exit → Type 0) → Answer → Type 0
Gives Allows value = Every Allows tt (λ r. r ≡ value)

abbrev pub Gives1 : {Lives A Answer Exit : Type 0} → (Lives → A × Unit {0} → Answer → Exit → Type 0) → (A → Answer) → Type 0
Gives1 {A = A} Allows f = (a : A) → Every Allows (a, tt) (λ r. r ≡ f a)

abbrev pub Gives2 : {Lives A B Answer Exit : Type 0} → (Lives → A × (B × Unit {0}) → Answer → Exit → Type 0) → (A → B → Answer) → Type 0
Gives2 {A = A} {B = B} Allows f = (a : A) (b : B) → Every Allows (a, (b, tt)) (λ r. r ≡ f a b)

abbrev pub Gives3 : {Lives A B C Answer Exit : Type 0} → (Lives → A × (B × (C × Unit {0})) → Answer → Exit → Type 0) → (A → B → C → Answer) → Type 0
Gives3 {A = A} {B = B} {C = C} Allows f = (a : A) (b : B) (c : C) → Every Allows (a, (b, (c, tt))) (λ r. r ≡ f a b c)

abbrev pub Gives4 : {Lives A B C D Answer Exit : Type 0} → (Lives → A × (B × (C × (D × Unit {0}))) → Answer → Exit → Type 0) → (A → B → C → D → Answer) → Type 0
Gives4 {A = A} {B = B} {C = C} {D = D} Allows f = (a : A) (b : B) (c : C) (d : D) → Every Allows (a, (b, (c, (d, tt)))) (λ r. r ≡ f a b c d)
