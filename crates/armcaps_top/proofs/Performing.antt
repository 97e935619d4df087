-- From what is made of an answer to what a command does.
use Rattle.std.proofs.Common.{◌≡◌, ◌≢◌, ℕ, ◌+◌, ◌≤◌, false, List, [], ◌∷◌, ◌++◌, length, drop, Option, Some, None, refl, sym, ap, subst, ◌∙◌}
use Rattle.std.specs.Prelude.{Result, Ok, Err, IfSome, unwrap_or}
use Rattle.armcaps_boot.specs.World.{World}
use Rattle.armcaps_io.specs.Causes.{Rose}
use Rattle.armcaps_io.specs.Streams.{Appends, AppendsPrefix, GivesAtMost, GivesCount, Keeps}
use Rattle.armcaps_text.specs.Document.{Reading}
use Rattle.armcaps_top.specs.Answer.{Answer, answer_of, of_document, of_documents, output_in, refused, unless_stopped}
use Rattle.armcaps_top.specs.Document.{Document, document}
use Rattle.armcaps_top.specs.Inside.{AreCoresGiven, Comes, Ends, IsNotRead, IsNotUp, IsRead, IsRefusedSo, IsThrough, IsUp, IsWhy, Performs, limit_of}
use Rattle.armcaps_top.specs.Patch.{unless}
use Rattle.armcaps_top.specs.Run.{Change, EndsSo, most_read, reads_input}
use Rattle.armcaps_top.specs.declared.commands.Command.{Command}
use Rattle.armcaps_top.specs.declared.ending.Ending.{Ending}
use Rattle.armcaps_top.specs.declared.ending.Ending.TheVariants.{Done, ReadFault, WriteFault, Memory, NoOutput}
use Rattle.armcaps_top.specs.declared.reason.Reason.{Reason}
use Rattle.armcaps_top.specs.declared.reason.Reason.TheVariants.{Refused}
use Rattle.armcaps_top.specs.declared.refusal.Refusal.{Refusal}
use Rattle.armcaps_top.specs.declared.refusal.Refusal.TheVariants.{TooLong}
use Rattle.armcaps_top.proofs.Fitting.{fits}
use Rattle.armcaps_top.proofs.WithinLimits.{answer_short}

-- nothing comes of an answer for want of memory
pub no_memory : (answer : Answer) (machines : List World) → Comes answer machines (Err Memory)
no_memory answer machines = record {
  output = tt;
  instead = tt;
  machines_are = λ had. absurd (had refl);
  safe = tt;
}

-- an input that is refused
pub not_taken : (command : Command) (answer : Answer) (read : Result Document Refusal) (machines : List World) (ending : Ending) → answer ≡ of_document command read
    → machines ≡ [] → IsRefusedSo read ending → Comes answer machines (Err ending)
not_taken command answer read machines Done of none is = absurd is
not_taken command answer read machines ReadFault of none is = absurd is
not_taken command answer read machines WriteFault of none is = absurd is
not_taken command answer read machines Memory of none is = no_memory answer machines
not_taken command answer read machines (NoOutput (Refused refusal)) of none is = rw (of, is, none) (record {
  output = tt;
  instead = refl;
  machines_are = λ had. tt;
  safe = tt;
})
not_taken command answer read machines (NoOutput _) of none is = absurd is

-- documents that are refused
pub none_taken : (read : Result (List Document) Refusal) (machines : List World) (ending : Ending) → machines ≡ [] → IsRefusedSo read ending
    → Comes (of_documents read) machines (Err ending)
none_taken read machines Done none is = absurd is
none_taken read machines ReadFault none is = absurd is
none_taken read machines WriteFault none is = absurd is
none_taken read machines Memory none is = no_memory (of_documents read) machines
none_taken read machines (NoOutput (Refused refusal)) none is = rw (is, none) (record {
  output = tt;
  instead = refl;
  machines_are = λ had. tt;
  safe = tt;
})
none_taken read machines (NoOutput _) none is = absurd is

-- what a document is, its image apart
pub document_is : (reading : Reading) (image bytes : List ℕ) (place : ℕ) → document bytes ≡ Ok (record { reading = reading; image = drop place bytes })
    → image ≡ drop place bytes → document bytes ≡ Ok (record { reading = reading; image = image })
document_is reading image bytes place is from = rw from is

-- one machine was brought up
one_left : (old new : List World) (world : World) → new ≡ old ++ world ∷ [] → old ≡ [] → new ≡ world ∷ []
one_left old new world is none = is ∙ rw none refl

-- the only machine
pub only_through : {reading : Reading} {old new : List World} (world : World) → IsUp reading old new → old ≡ [] → new ≡ world ∷ [] → IsThrough reading world
only_through {reading} {old} {new} world up none one =
    let both : up.world ∷ [] ≡ world ∷ [] = sym (one_left old new up.world up.left none) ∙ one in
    let same : up.world ≡ world = cc in subst (λ (w : World). IsThrough reading w) same up.through

-- what is made of a machine that was brought up
pub came : (command : Command) (found : Document) (old new : List World) (text : List ℕ) → IsUp found.reading old new → old ≡ [] → output_in command found ≡ Ok text
    → Comes (of_document command (Ok found)) new (Ok text)
came command found old new text up none is = record {
  output = ap (λ halt. unless_stopped halt (output_in command found)) up.through.going ∙ is;
  instead = tt;
  machines_are = λ had. rw (one_left old new up.world up.left none) (up.through.machine, tt);
  safe = (up.through.safe, tt);
}

-- why nothing is
pub came_not : (command : Command) (found : Document) (old new : List World) (reason : Reason) → IsUp found.reading old new → old ≡ [] → output_in command found ≡ Err reason
    → Comes (of_document command (Ok found)) new (Err (NoOutput reason))
came_not command found old new reason up none is = record {
  output = tt;
  instead = ap (λ halt. unless_stopped halt (output_in command found)) up.through.going ∙ is;
  machines_are = λ had. rw (one_left old new up.world up.left none) (up.through.machine, tt);
  safe = tt;
}

-- the same, or there was no memory
pub came_why : (command : Command) (found : Document) (old new : List World) (why : Option Reason) (text : List ℕ) (ending : Ending) → IsUp found.reading old new
    → old ≡ [] → output_in command found ≡ unless why text → IsWhy why ending → Comes (of_document command (Ok found)) new (Err ending)
came_why command found old new why text Done up none is so = absurd so
came_why command found old new why text ReadFault up none is so = absurd so
came_why command found old new why text WriteFault up none is so = absurd so
came_why command found old new why text Memory up none is so = no_memory (of_document command (Ok found)) new
came_why command found old new why text (NoOutput reason) up none is so =
    came_not command found old new reason up none (is ∙ ap (λ (w : Option Reason). unless w text) so)

-- why a machine was not brought up
pub not_up : (command : Command) (found : Document) (old new : List World) (ending : Ending) → IsNotUp found.reading old new ending → old ≡ []
    → Comes (of_document command (Ok found)) new (Err ending)
not_up command found old new Done is none = absurd is
not_up command found old new ReadFault is none = absurd is
not_up command found old new WriteFault is none = absurd is
not_up command found old new Memory is none = no_memory (of_document command (Ok found)) new
not_up command found old new (NoOutput reason) halted none = record {
  output = tt;
  instead = halted.stopped (output_in command found);
  machines_are = λ had. rw (one_left old new halted.world halted.left none) (halted.machine, tt);
  safe = tt;
}

-- what was made is written
pub wrote : (command : Command) (answer : Answer) (out : Change) (machines : List World) (text : List ℕ) → Comes answer machines (Ok text)
    → Appends out.old out.new text → Ends command answer out machines Done
wrote command answer out machines text comes added = record {
  so = λ input whole. (rw comes.output added, whole);
  read = λ e. let no : ⊥ = cc in no;
  safe = λ e. comes.safe;
  silent = λ done fault. absurd (done refl);
  machines_are = λ had. comes.machines_are (λ e. let no : ⊥ = cc in no);
}

-- or a first part of it
pub wrote_part : (command : Command) (answer : Answer) (out : Change) (machines : List World) (text : List ℕ) → Comes answer machines (Ok text)
    → Rose out.before out.now → AppendsPrefix out.old out.new text → Ends command answer out machines WriteFault
wrote_part command answer out machines text comes rose added = record {
  so = λ input whole. (rose, rw comes.output added);
  read = λ e. let no : ⊥ = cc in no;
  safe = λ e. absurd (let no : ⊥ = cc in no);
  silent = λ done fault. absurd (fault refl);
  machines_are = λ had. comes.machines_are (λ e. let no : ⊥ = cc in no);
}

-- or nothing
pub unwritten : (command : Command) (answer : Answer) (out : Change) (machines : List World) (ending : Ending) → Comes answer machines (Err ending)
    → Keeps out.old out.new → Ends command answer out machines ending
unwritten command answer out machines Done comes kept = absurd comes.instead
unwritten command answer out machines ReadFault comes kept = absurd comes.instead
unwritten command answer out machines WriteFault comes kept = absurd comes.instead
unwritten command answer out machines Memory comes kept = record {
  so = λ input whole. tt;
  read = λ e. let no : ⊥ = cc in no;
  safe = λ e. absurd (let no : ⊥ = cc in no);
  silent = λ done fault. kept;
  machines_are = λ had. absurd (had refl);
}
unwritten command answer out machines (NoOutput reason) comes kept = record {
  so = λ input whole. comes.instead;
  read = λ e. let no : ⊥ = cc in no;
  safe = λ e. absurd (let no : ⊥ = cc in no);
  silent = λ done fault. kept;
  machines_are = λ had. comes.machines_are (λ e. let no : ⊥ = cc in no);
}

pub keeps : (bytes : Option (List ℕ)) → Keeps bytes bytes
keeps None = tt
keeps (Some bytes) = refl

pub kept_too : {A : Type 0} (bytes : A → Option (List ℕ)) (old new : A) → new ≡ old → Keeps (bytes old) (bytes new)
kept_too {A} bytes old new same = subst (λ (a : A). Keeps (bytes old) (bytes a)) (sym same) (keeps (bytes old))

told_or : (left : Option (List ℕ)) → IfSome left (λ told. unwrap_or left [] ≡ told)
told_or None = tt
told_or (Some bytes) = refl

-- a command that reads its input whole, and answers it
pub performed : (command : Command) (input out : Change) (bytes slice : List ℕ) (machines : List World) (ending : Ending) → AreCoresGiven (Some command)
    → IsRead command input bytes → slice ≡ bytes → length bytes ≤ limit_of command bytes → Ends command (answer_of command slice) out machines ending
    → GivesAtMost input.old input.new (most_read (Some command)) → (reads_input (Some command) ≡ false → Keeps input.old input.new)
    → Performs command input out machines ending
performed command input out bytes slice machines ending given read same within ends at_most unread =
    let came : Ends command (answer_of command bytes) out machines ending = subst (λ (b : List ℕ). Ends command (answer_of command b) out machines ending) same ends in
    let so : EndsSo (Some command) (answer_of command bytes) input out ending = came.so input read.whole in record {
      bytes = bytes;
      told_bytes = read.told_bytes;
      reason = so;
      safe = came.safe;
      too_long = λ limit is. absurd (answer_short command bytes limit within ((fits (Some command) bytes given).refused (TooLong limit)
          (subst (λ (e : Ending). EndsSo (Some command) (answer_of command bytes) input out e) is so)));
      silent = came.silent;
      unread = unread;
      read_at_most = at_most;
      machines_are = λ fault memory. came.machines_are memory;
      no_machine = λ fault. absurd (came.read fault);
    }

-- a command of whose input nothing is known
nothing_read : (command : Command) (input out : Change) (machines : List World) (ending : Ending) → EndsSo (Some command) (answer_of command (unwrap_or input.old [])) input out ending
    → ending ≢ Done → (ending ≢ ReadFault → ending ≢ Memory → ⊥) → machines ≡ [] → out.new ≡ out.old
    → ((limit : ℕ) → ending ≡ NoOutput (Refused (TooLong limit)) → GivesCount input.old input.new (limit + 1))
    → GivesAtMost input.old input.new (most_read (Some command)) → (reads_input (Some command) ≡ false → Keeps input.old input.new)
    → Performs command input out machines ending
nothing_read command input out machines ending reason failed either none same one_more at_most unread = record {
  bytes = unwrap_or input.old [];
  told_bytes = λ reads. told_or input.old;
  reason = reason;
  safe = λ done. absurd (failed done);
  too_long = one_more;
  silent = λ done fault. subst (λ (b : Option (List ℕ)). Keeps out.old b) (sym same) (keeps out.old);
  unread = unread;
  read_at_most = at_most;
  machines_are = λ fault memory. absurd (either fault memory);
  no_machine = λ fault. none;
}

-- a command whose input was not read whole
pub not_performed : (command : Command) (input out : Change) (machines : List World) (ending : Ending) → machines ≡ [] → out.new ≡ out.old → IsNotRead command input ending
    → ((limit : ℕ) → ending ≡ NoOutput (Refused (TooLong limit)) → GivesCount input.old input.new (limit + 1))
    → GivesAtMost input.old input.new (most_read (Some command)) → (reads_input (Some command) ≡ false → Keeps input.old input.new)
    → Performs command input out machines ending
not_performed command input out machines Done none same is one_more at_most unread = absurd is
not_performed command input out machines WriteFault none same is one_more at_most unread = absurd is
not_performed command input out machines ReadFault none same is one_more at_most unread =
    nothing_read command input out machines ReadFault is (λ done. cc) (λ fault memory. fault refl) none same one_more at_most unread
not_performed command input out machines Memory none same is one_more at_most unread =
    nothing_read command input out machines Memory tt (λ done. cc) (λ fault memory. memory refl) none same one_more at_most unread
not_performed command input out machines (NoOutput reason) none same is one_more at_most unread = record {
  bytes = is.bytes;
  told_bytes = is.told_bytes;
  reason = ap (λ (answer : Answer). answer.output) is.refused;
  safe = λ e. absurd (let no : ⊥ = cc in no);
  too_long = one_more;
  silent = λ done fault. subst (λ (b : Option (List ℕ)). Keeps out.old b) (sym same) (keeps out.old);
  unread = unread;
  read_at_most = at_most;
  machines_are = λ fault memory. rw (is.refused, none) tt;
  no_machine = λ fault. none;
}
