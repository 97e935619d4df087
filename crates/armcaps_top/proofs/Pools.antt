-- Machines that are brought up one after the other.
use Rattle.std.proofs.Common.{◌≡◌, ℕ, ◌+◌, ◌<◌, List, [], ◌∷◌, ◌++◌, length, map, take, drop, get_or, Option, Some, None, refl, sym, ap, subst, ◌∙◌, arith}
use Rattle.std.proofs.lemmas.List.{at_drop_more, length-map, map-append, map-id, take-append-drop}
use Rattle.std.specs.Prelude.{Result, Ok, Err}
use Rattle.std.specs.Option.{option_map, option_or}
use Rattle.armcaps_boot.specs.declared.park_or_panic.Halt.{Halt}
use Rattle.armcaps_boot.specs.Findings.{Findings, findings_of}
use Rattle.armcaps_boot.specs.World.{World}
use Rattle.armcaps_text.specs.Document.{Reading, reading_of}
use Rattle.armcaps_text.specs.declared.machine.Machine.{Machine}
use Rattle.armcaps_top.specs.Answer.{findings_in, first_stop, halt_in, of_documents, unless_stopped, up_to_stop}
use Rattle.armcaps_top.specs.Document.{Document, documents_after, without_image}
use Rattle.armcaps_top.specs.Inside.{AreThrough, Comes, IsHalted, IsNotUp, IsThrough, IsUp, ending_of_machine}
use Rattle.armcaps_top.specs.Patch.{unless}
use Rattle.armcaps_top.specs.Pool.{pool_output, words_found}
use Rattle.armcaps_top.specs.Run.{AreMachinesOf, AreSafe, IsMachineOf}
use Rattle.armcaps_top.specs.declared.ending.Ending.{Ending}
use Rattle.armcaps_top.specs.declared.ending.Ending.TheVariants.{Done, ReadFault, WriteFault, Memory, NoOutput}
use Rattle.armcaps_top.specs.declared.reason.Reason.{Reason}
use Rattle.armcaps_top.specs.declared.reason.Reason.TheVariants.{Panicked, MachinePanicked}
use Rattle.armcaps_top.specs.declared.refusal.Refusal.{Refusal}
use Rattle.armcaps_top.proofs.Performing.{no_memory}

-- one machine more
through_more : (readings : List Reading) (worlds : List World) (reading : Reading) (world : World) → AreThrough readings worlds → IsThrough reading world
    → AreThrough (readings ++ reading ∷ []) (worlds ++ world ∷ [])
through_more [] [] reading world are is = (is, tt)
through_more [] (other ∷ others) reading world are is = absurd are
through_more (first ∷ more) [] reading world are is = absurd are
through_more (first ∷ more) (other ∷ others) reading world are is = (are.0, through_more more others reading world are.1 is)

pub as_many : (readings : List Reading) (worlds : List World) → AreThrough readings worlds → length worlds ≡ length readings
as_many [] [] are = refl
as_many [] (world ∷ others) are = absurd are
as_many (reading ∷ more) [] are = absurd are
as_many (reading ∷ more) (world ∷ others) are = omega (arith, as_many more others are.1)

-- the documents of readings
abbrev documents_of : List Reading → List Document
documents_of readings = map without_image readings

-- where no step stops the machines of some documents, the first stop is behind them
later_stop : (readings : List Reading) (worlds : List World) (rest : List Document) (number : ℕ) → AreThrough readings worlds
    → first_stop number (documents_of readings ++ rest) ≡ first_stop (number + length readings) rest
later_stop [] [] rest number are = let same : number + 0 ≡ number = omega arith in rw same refl
later_stop [] (world ∷ others) rest number are = absurd are
later_stop (reading ∷ more) [] rest number are = absurd are
later_stop (reading ∷ more) (world ∷ others) rest number are =
    let next : number + 1 + length more ≡ number + length (reading ∷ more) = omega arith in
    rw are.0.going (later_stop more others rest (number + 1) are.1 ∙ ap (λ (n : ℕ). first_stop n rest) next)

later_up : (readings : List Reading) (worlds : List World) (rest : List Document) → AreThrough readings worlds
    → up_to_stop (documents_of readings ++ rest) ≡ documents_of readings ++ up_to_stop rest
later_up [] [] rest are = refl
later_up [] (world ∷ others) rest are = absurd are
later_up (reading ∷ more) [] rest are = absurd are
later_up (reading ∷ more) (world ∷ others) rest are =
    rw are.0.going (ap (λ (found : List Document). without_image reading ∷ found) (later_up more others rest are.1))

-- the machines are those of the documents, and one more
machines_of_all : (readings : List Reading) (worlds : List World) → AreThrough readings worlds → AreMachinesOf (documents_of readings) worlds
machines_of_all [] [] are = tt
machines_of_all [] (world ∷ others) are = absurd are
machines_of_all (reading ∷ more) [] are = absurd are
machines_of_all (reading ∷ more) (world ∷ others) are = (are.0.machine, machines_of_all more others are.1)

machines_more : (readings : List Reading) (worlds : List World) (found : Document) (world : World) → AreThrough readings worlds → IsMachineOf found world
    → AreMachinesOf (documents_of readings ++ found ∷ []) (worlds ++ world ∷ [])
machines_more [] [] found world are is = (is, tt)
machines_more [] (other ∷ others) found world are is = absurd are
machines_more (reading ∷ more) [] found world are is = absurd are
machines_more (reading ∷ more) (other ∷ others) found world are is = (are.0.machine, machines_more more others found world are.1 is)

safe_all : (readings : List Reading) (worlds : List World) → AreThrough readings worlds → AreSafe (documents_of readings)
safe_all [] [] are = tt
safe_all [] (world ∷ others) are = absurd are
safe_all (reading ∷ more) [] are = absurd are
safe_all (reading ∷ more) (world ∷ others) are = (are.0.safe, safe_all more others are.1)

found_all : (readings : List Reading) (worlds : List World) → AreThrough readings worlds → map findings_of worlds ≡ map findings_in (documents_of readings)
found_all [] [] are = refl
found_all [] (world ∷ others) are = absurd are
found_all (reading ∷ more) [] are = absurd are
found_all (reading ∷ more) (world ∷ others) are =
    ap (λ (one : Findings). one ∷ map findings_of others) are.0.found
    ∙ ap (λ (all : List Findings). findings_in (without_image reading) ∷ all) (found_all more others are.1)

nothing_behind : {A : Type 0} (xs : List A) → xs ++ [] ≡ xs
nothing_behind [] = refl
nothing_behind (x ∷ xs) = ap (λ more. x ∷ more) (nothing_behind xs)

-- what is made of machines all of which were brought up
pub pooled : (readings : List Reading) (worlds : List World) (text : List ℕ) → AreThrough readings worlds → text ≡ pool_output (map findings_of worlds)
    → Comes (of_documents (documents_after (Ok readings))) worlds (Ok text)
pooled readings worlds text are is =
    let all : List Document = documents_of readings in
    let whole : all ++ [] ≡ all = nothing_behind all in
    let none : first_stop 0 all ≡ None = ap (first_stop 0) (sym whole) ∙ later_stop readings worlds [] 0 are in
    let up : up_to_stop all ≡ all = ap up_to_stop (sym whole) ∙ later_up readings worlds [] are ∙ whole in
    let written : pool_output (map findings_in all) ≡ text = sym (is ∙ ap pool_output (found_all readings worlds are)) in record {
      output = ap (λ (why : Option Reason). unless why (pool_output (map findings_in all))) none ∙ ap Ok written;
      instead = tt;
      machines_are = λ had. subst (λ (found : List Document). AreMachinesOf found worlds) (sym up) (machines_of_all readings worlds are);
      safe = subst AreSafe (sym up) (safe_all readings worlds are);
    }

-- what stopped a machine
record IsBy (halt : Option Halt) (reason : Reason) : Type 0 where
  stop : Halt
  halt_is : halt ≡ Some stop
  reason_is : reason ≡ Panicked stop

stopped_by : (halt : Option Halt) (reason : Reason) → ((output : Result (List ℕ) Reason) → unless_stopped halt output ≡ Err reason) → IsBy halt reason
stopped_by None reason is = absurd (let never : Ok [] ≡ Err reason = is (Ok []) in let no : ⊥ = cc in no)
stopped_by (Some stop) reason is =
    let same : Err (Panicked stop) ≡ Err reason = is (Ok []) in
    let one : reason ≡ Panicked stop = cc in record { stop = stop; halt_is = refl; reason_is = one }

-- a machine that was stopped after others that were not
halted_after : (past : List Reading) (worlds new : List World) (reading : Reading) (rest : List Reading) (reason : Reason) → AreThrough past worlds
    → IsHalted reading reason worlds new → IsBy (halt_in (without_image reading)) reason
    → Comes (of_documents (documents_after (Ok (past ++ reading ∷ rest)))) new (Err (ending_of_machine (length past) (NoOutput reason)))
halted_after past worlds new reading rest reason are halted stop =
    let found : Document = without_image reading in
    let behind : List Document = found ∷ documents_of rest in
    let all : List Document = documents_of (past ++ reading ∷ rest) in
    let cut : all ≡ documents_of past ++ behind = map-append without_image past (reading ∷ rest) in
    let first : first_stop (length past) behind ≡ Some (MachinePanicked (length past) stop.stop) =
    ap (λ (halt : Option Halt). option_or (option_map (MachinePanicked (length past)) halt) (first_stop (length past + 1) (documents_of rest))) stop.halt_is in
    let count : 0 + length past ≡ length past = omega arith in
    let told : first_stop 0 all ≡ Some (MachinePanicked (length past) stop.stop) =
    ap (first_stop 0) cut ∙ later_stop past worlds behind 0 are ∙ ap (λ (n : ℕ). first_stop n behind) count ∙ first in
    let last : up_to_stop behind ≡ found ∷ [] = rw stop.halt_is refl in
    let up : up_to_stop all ≡ documents_of past ++ found ∷ [] =
    ap up_to_stop cut ∙ later_up past worlds behind are ∙ ap (λ (more : List Document). documents_of past ++ more) last in
    let left : AreMachinesOf (documents_of past ++ found ∷ []) (worlds ++ halted.world ∷ []) =
    machines_more past worlds found halted.world are halted.machine in
    rw stop.reason_is (record {
      output = tt;
      instead = ap (λ (why : Option Reason). unless why (pool_output (map findings_in all))) told;
      machines_are = λ had. subst (λ (documents : List Document). AreMachinesOf documents new) (sym up)
          (subst (λ (machines : List World). AreMachinesOf (documents_of past ++ found ∷ []) machines) (sym halted.left) left);
      safe = tt;
    })

pub stopped_after : (past : List Reading) (worlds new : List World) (reading : Reading) (rest : List Reading) (ending : Ending) → AreThrough past worlds
    → IsNotUp reading worlds new ending → Comes (of_documents (documents_after (Ok (past ++ reading ∷ rest)))) new (Err (ending_of_machine (length past) ending))
stopped_after past worlds new reading rest Done are is = absurd is
stopped_after past worlds new reading rest ReadFault are is = absurd is
stopped_after past worlds new reading rest WriteFault are is = absurd is
stopped_after past worlds new reading rest Memory are is = no_memory (of_documents (documents_after (Ok (past ++ reading ∷ rest)))) new
stopped_after past worlds new reading rest (NoOutput reason) are halted =
    halted_after past worlds new reading rest reason are halted (stopped_by (halt_in (without_image reading)) reason halted.stopped)

-- a machine that was brought up after others
pub up_after : (past : List Machine) (worlds new : List World) (machine : Machine) → AreThrough (map reading_of past) worlds → IsUp (reading_of machine) worlds new
    → AreThrough (map reading_of (past ++ machine ∷ [])) new
up_after past worlds new machine are up =
    subst (λ (readings : List Reading). AreThrough readings new) (sym (map-append reading_of past (machine ∷ [])))
    (subst (λ (left : List World). AreThrough (map reading_of past ++ reading_of machine ∷ []) left) (sym up.left)
    (through_more (map reading_of past) worlds (reading_of machine) up.world are up.through))

-- the place of a machine among those that are brought up in turn
pub cut_at : (all before : List Machine) (machine : Machine) → map (λ (one : Machine). one) before ≡ take (length before) all → length before < length all
    → machine ≡ get_or all (length before) machine → all ≡ before ++ machine ∷ drop (length before + 1) all
cut_at all before machine first inside here =
    let n : ℕ = length before in
    let rest : drop n all ≡ get_or all n machine ∷ drop (n + 1) all = at_drop_more (λ (left : List Machine). left) all n machine inside in
    sym (take-append-drop n all) ∙ ap (λ (front : List Machine). front ++ drop n all) (sym first ∙ map-id before)
    ∙ ap (λ (left : List Machine). before ++ left) (rest ∙ ap (λ (one : Machine). one ∷ drop (n + 1) all) (sym here))

-- a machine of a vector that was stopped after others that were not
pub stopped_among : (all before : List Machine) (machine : Machine) (worlds new : List World) (ending told : Ending) (number : ℕ)
    → all ≡ before ++ machine ∷ drop (length before + 1) all → AreThrough (map reading_of before) worlds → IsNotUp (reading_of machine) worlds new ending
    → number ≡ length worlds → told ≡ ending_of_machine number ending → Comes (of_documents (documents_after (Ok (map reading_of all)))) new (Err told)
stopped_among all before machine worlds new ending told number cut are is count numbered =
    let past : List Reading = map reading_of before in
    let rest : List Machine = drop (length before + 1) all in
    let readings : past ++ reading_of machine ∷ map reading_of rest ≡ map reading_of all =
    sym (ap (map reading_of) cut ∙ map-append reading_of before (machine ∷ rest)) in
    let same : ending_of_machine (length past) ending ≡ told =
    ap (λ (n : ℕ). ending_of_machine n ending) (sym (count ∙ as_many past worlds are)) ∙ sym numbered in
    subst (λ (r : List Reading). Comes (of_documents (documents_after (Ok r))) new (Err told)) readings
    (subst (λ (e : Ending). Comes (of_documents (documents_after (Ok (past ++ reading_of machine ∷ map reading_of rest)))) new (Err e)) same
    (stopped_after past worlds new (reading_of machine) (map reading_of rest) ending are is))

-- the words of machines
pub words_each : (worlds : List World) → map (λ (world : World). words_found (findings_of world)) worlds ≡ map words_found (map findings_of worlds)
words_each [] = refl
words_each (world ∷ others) = ap (λ (more : List (List ℕ)). words_found (findings_of world) ∷ more) (words_each others)

-- as many machines as were read
pub as_many_read : (read : List Machine) (worlds slice : List World) → AreThrough (map reading_of read) worlds → slice ≡ worlds → length slice ≡ length read
as_many_read read worlds slice are is = ap length is ∙ as_many (map reading_of read) worlds are ∙ length-map read reading_of

-- what is made of the machines of texts, all of which were brought up
pub pool_made : (read : List Machine) (found : Result (List Document) Refusal) (worlds slice : List World) (text : List ℕ)
    → found ≡ documents_after (Ok (map reading_of read)) → AreThrough (map reading_of read) worlds → slice ≡ worlds → text ≡ pool_output (map findings_of slice)
    → Comes (of_documents found) worlds (Ok text)
pool_made read found worlds slice text is are same written =
    subst (λ (all : Result (List Document) Refusal). Comes (of_documents all) worlds (Ok text)) (sym is)
    (pooled (map reading_of read) worlds text are (written ∙ ap (λ (machines : List World). pool_output (map findings_of machines)) same))
