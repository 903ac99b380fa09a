-- Evidence: the records that a reader hands out are the trace's, and the run that the demands speak of is the one that a trace's text tells.
use Rattle.std.specs.Prelude.{ℕ, zero, suc, ◌+◌, ◌/◌, ◌%◌, ◌<◌, ◌≡◌, List, [], ◌∷◌, ◌++◌, length, Ok, Err, Option, Some, None}
use Rattle.clock.specs.Timer.{GoodSetup}
use Rattle.trace.specs.declared.Record.TheVariants as K
use Rattle.trace.specs.Decode.{Decoded}
use Rattle.trace.specs.Handing.{item_at, place_after}
use Rattle.machine.specs.Step.{fresh_machine, step_of}
use Rattle.transcript.specs.Replay.{machine_after, whole_records, last_text, last_of}
use Rattle.demands.specs.Trace.{Watched, watch_all, at_setup, FairTrace}

-- the onlooker changes nothing: the machine is the one that the records leave
abbrev pub SameRun : Type 0
SameRun = (ds : List Decoded) (w : Watched) → (watch_all step_of ds w).machine ≡ machine_after w.machine ds

-- bytes that are no record, or a record that is no setup
abbrev pub NoSetup : Decoded → Type 0
NoSetup (Ok (K.Run p)) = Unit {0}
NoSetup (Ok (K.Sample g)) = Unit {0}
NoSetup (Ok K.Announce) = Unit {0}
NoSetup (Ok (K.Start i g)) = Unit {0}
NoSetup (Ok (K.Switch i g)) = Unit {0}
NoSetup (Ok (K.Stop g)) = Unit {0}
NoSetup (Ok (K.Enable i g)) = Unit {0}
NoSetup (Ok (K.Disable i g)) = Unit {0}
NoSetup (Ok (K.Report i)) = Unit {0}
NoSetup (Ok (K.Setup s)) = ⊥
NoSetup (Err why) = Unit {0}

abbrev pub NoneSetsUp : List Decoded → Type 0
NoneSetsUp [] = Unit {0}
NoneSetsUp (d ∷ ds) = NoSetup d × NoneSetsUp ds

-- a trace whose first setup is this one, and which is fair from there on, ends with the cycles run, and with those run by the last C; whatever stands before the setup is turned away
abbrev pub EndsTrue : Type 0
EndsTrue =
    (slots period tick : ℕ) → 0 < slots → GoodSetup period tick →
    (trace : List ℕ) (before ds : List Decoded) →
    NoneSetsUp before →
    whole_records trace ≡ before ++ Ok (K.Setup (record { period = period; tick = tick })) ∷ ds →
    FairTrace step_of period ds (at_setup step_of slots period tick) →
    let w = watch_all step_of ds (at_setup step_of slots period tick) in
    last_of (length trace % 16) (machine_after (fresh_machine slots) (whole_records trace)) ≡ last_text (length trace % 16) w.ran w.at_c

-- the first n items from a place on, up to the end
abbrev pub handed_by : Option Decoded → List Decoded → List Decoded
handed_by (Some d) rest = d ∷ rest
handed_by None rest = []

unfoldable pub handed_from : ℕ → List ℕ → ℕ → List Decoded
handed_from zero s at = []
handed_from (suc n) s at = handed_by (item_at s at) (handed_from n s (place_after s at))

-- asked over and over, a reader hands out just the records of the trace, and then the end
abbrev pub HandsOut : Type 0
HandsOut = (trace : List ℕ) (more : ℕ) → handed_from (length trace / 16 + more) trace 0 ≡ whole_records trace
