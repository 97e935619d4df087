-- What `jump` makes of the patched image of a machine that was brought up.
use Rattle.std.proofs.Common.{◌≡◌, ℕ, ◌+◌, ◌*◌, ◌≤◌, Bool, false, cond, nat_lt, List, length, Option, Some, None, ap, ◌∙◌, arith}
use Rattle.std.specs.Prelude.{Result, Ok, Err}
use Rattle.std.proofs.lemmas.Bool.Decides.{nat_tests}
use Rattle.armcaps_boot.specs.World.{World}
use Rattle.armcaps_boot.specs.declared.park_or_panic.Halt.{Halt}
use Rattle.armcaps_jump.specs.Jumped.{jump_image}
use Rattle.armcaps_jump.specs.Refusals as labels
use Rattle.armcaps_jump.specs.Refusals.{first_refusal}
use Rattle.armcaps_jump.specs.Standing.{JumpSites, StandsFor}
use Rattle.armcaps_top.specs.Answer.{halt_in, of_document, output_in, unless_stopped}
use Rattle.armcaps_top.specs.Document.{Document}
use Rattle.armcaps_top.specs.Inside.{Comes}
use Rattle.armcaps_top.specs.Jump.{labelled, labelled_after, unless_label_refused}
use Rattle.armcaps_top.specs.declared.commands.Command.TheVariants.{Patch, Jump}
use Rattle.armcaps_top.specs.declared.commands.jump.LabelsRefused.TheVariants.{TableOutside}
use Rattle.armcaps_top.specs.declared.reason.Reason.{Reason}
use Rattle.armcaps_top.specs.declared.reason.Reason.TheVariants.{NotJumped}

-- what stands for an image and its table
pub labels_stand : (jumps : JumpSites) (table count : ℕ) (image : List ℕ) → StandsFor jumps image table count
    → labelled table count image ≡ Ok (jump_image image table count)
labels_stand jumps table count image stands =
    let within : table + 16 * count ≤ length image = stands.inside in
    let test : nat_lt (length image) (table + 16 * count) ≡ false = grind (arith, nat_tests) in
    ap (λ (b : Bool). cond b (Err (NotJumped TableOutside)) (unless_label_refused (first_refusal image table count) (jump_image image table count))) test
    ∙ ap (λ (r : Option labels.Refusal). unless_label_refused r (jump_image image table count)) stands.accepted

-- what `patch` comes to decides what `jump` comes to
after_patch : (table count : ℕ) (halt : Option Halt) (patched made : Result (List ℕ) Reason) → unless_stopped halt patched ≡ made
    → unless_stopped halt (labelled_after table count patched) ≡ labelled_after table count made
after_patch table count None patched made is = ap (labelled_after table count) is
after_patch table count (Some halt) patched made is = ap (labelled_after table count) is

-- where there are a patched image and its labels
pub labels_come : (table count : ℕ) (found : Document) (machines : List World) (image text : List ℕ) → Comes (of_document Patch (Ok found)) machines (Ok image)
    → labelled table count image ≡ Ok text → Comes (of_document (Jump table count) (Ok found)) machines (Ok text)
labels_come table count found machines image text comes is = record {
  output = after_patch table count (halt_in found) (output_in Patch found) (Ok image) comes.output ∙ is;
  instead = tt;
  machines_are = λ had. comes.machines_are (λ e. let no : ⊥ = cc in no);
  safe = comes.safe;
}
