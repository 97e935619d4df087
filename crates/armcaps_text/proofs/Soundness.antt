-- What holds of what lines without a kind come to.
use Rattle.std.proofs.Common.{◌≡◌, ℕ, ◌+◌, ◌*◌, ◌^◌, ◌<◌, ◌≤◌, ◌==◌, ◌&&◌, ◌||◌, not, Bool, true, false, nat_lt, nat_le, List, [], ◌∷◌, ◌++◌, length, Option, Some, None, is_none, unwrap_or, refl, sym, subst, ◌∙◌, arith, length-append, append-nil, lit<, ap}
use Rattle.std.specs.Option.{option_map_or, option_or}
use Rattle.std.proofs.Math.ListN.{length-set}
use Rattle.std.proofs.lemmas.Bool.Decides.{nat_tests}
use Rattle.armcaps_alt.specs.declared.table_place.Layout.{Layout}
use Rattle.armcaps_board.specs.Board.{Board}
use Rattle.armcaps_board.specs.Order.{in_order, is_complete, is_in_turn, is_wrong_finalise}
use Rattle.armcaps_board.specs.Steps.{core_of, first_event, history}
use Rattle.armcaps_board.proofs.Lines.{order-none, order-push}
use Rattle.armcaps_board.proofs.Turns.{order-same}
use Rattle.armcaps_board.specs.declared.step_line.StepLine.{StepLine}
use Rattle.armcaps_cmdline.proofs.Fitting.{command_line_fits, listed}
use Rattle.armcaps_cmdline.proofs.IdRegisters.{outside}
use Rattle.armcaps_enc.specs.declared.register.SysReg.TheVariants.{CtrEl0}
use Rattle.armcaps_text.specs.Before.{Before, before}
use Rattle.armcaps_text.specs.Document.{reading_after}
use Rattle.armcaps_text.specs.KindAtLine.{kinds_asked, kind_after, is_second_header, is_in_passed_section, lacks_core, lacks_boot, has_one_line}
use Rattle.armcaps_text.specs.Learned.{zero_core, learned}
use Rattle.armcaps_text.specs.Meaning.{section_of}
use Rattle.armcaps_text.specs.Sound.{IsSound}
use Rattle.armcaps_text.specs.declared.format.Format.{Format}
use Rattle.armcaps_text.specs.declared.kind.TextKind.TheVariants as kind
use Rattle.armcaps_text.specs.declared.line.Line.{Line}
use Rattle.armcaps_text.specs.declared.line.Line.TheVariants.{Core, Register, VectorLengths, Boot, Step, Image}
use Rattle.armcaps_text.proofs.LastLine.{fails, last_of_four, boot_there}
use Rattle.std.proofs.lemmas.Bool.{and_from, not-false}

-- the cores begun so far, with this boot core
abbrev begun : Before → ℕ → Board
begun kept core = record { cores = kept.cores; boot = core; overrides = [] }

-- a boot core is one of the cores, and no core begins after it; there are not too many cores; steps stand after a boot core, and
-- each may come after those before it
pub record SoFar (format : Format) (kept : Before) : Type 0 where
  pub boot : (core : ℕ) → kept.boot ≡ Some core → (core < length kept.cores) × (2 ≤ kept.section)
  pub few : length kept.cores ≤ format.cores
  pub early : kept.boot ≡ None → kept.steps ≡ []
  pub order : (core : ℕ) → kept.boot ≡ Some core → in_order (begun kept core) (history kept.steps) ≡ true

pub sound_at_first : (format : Format) → SoFar format (before [])
unfolding before
sound_at_first format = record { boot = λ core h. cc; few = omega arith; early = λ h. refl; order = λ core h. cc }

-- steps in order are so by the number of the cores and the boot core
order_same : (old new : Board) (past now : List StepLine) → length new.cores ≡ length old.cores → new.boot ≡ old.boot → now ≡ past → in_order old (history past) ≡ true → in_order new (history now) ≡ true
order_same old new past now count boot steps ordered = ap (λ (lines : List StepLine). in_order new (history lines)) steps ∙ order-same new old (history past) count boot ∙ ordered

-- as long as cores, boot core and steps stay
stays : (format : Format) (kept now : Before) → length now.cores ≡ length kept.cores → now.boot ≡ kept.boot → now.steps ≡ kept.steps → kept.section ≤ now.section → SoFar format kept → SoFar format now
stays format kept now cores boot steps section so_far = record {
  boot = λ core h. let old = so_far.boot core (sym boot ∙ h) in (omega (arith, old.0, cores), omega (arith, old.1, section));
  few = omega (arith, so_far.few, cores);
  early = λ h. steps ∙ so_far.early (sym boot ∙ h);
  order = λ core h. order_same (begun kept core) (begun now core) _ _ cores refl steps (so_far.order core (sym boot ∙ h));
}

-- a line of a section that is passed is out of order
passed : (before : Before) (given : Line (List ℕ)) → (((is_second_header given || is_in_passed_section before given) || lacks_core before given) || lacks_boot before given) ≡ false → nat_lt (section_of given) before.section ≡ false
passed before given h = by_tests (is_second_header given) (nat_lt (section_of given) before.section) (has_one_line (section_of given) && (section_of given == before.section)) (lacks_core before given) (lacks_boot before given) h
  where
    by_tests : (a b c d e : Bool) → (((a || (b || c)) || d) || e) ≡ false → b ≡ false
    by_tests true b c d e h = cc
    by_tests false true c d e h = cc
    by_tests false false c d e h = refl

-- a core that begins
begins : (format : Format) (kept : Before) (core : ℕ) → kind_after format kept (Core core) ≡ None → SoFar format kept → SoFar format (learned kept (Core core))
unfolding kind_after learned
begins format kept core none so_far = record {
  boot = λ other h. absurd (no_boot other h);
  few = room;
  early = λ h. append-nil kept.steps ∙ so_far.early h;
  order = λ other h. absurd (no_boot other h);
}
  where
    order : nat_lt 1 kept.section ≡ false
    order = passed kept (Core core) (fails (kinds_asked format kept (Core core)) 1 (false, kind.Order) none (lit< tt))

    no_boot : (other : ℕ) → option_or None kept.boot ≡ Some other → ⊥
    no_boot other h = let old = so_far.boot other h in let low = order in grind (arith, nat_tests, old.1)

    many : nat_le format.cores (length kept.cores) ≡ false
    many = fails (kinds_asked format kept (Core core)) 7 (false, kind.Order) none (lit< tt)

    room : length (kept.cores ++ zero_core ∷ []) ≤ format.cores
    room = let few : length kept.cores < format.cores = grind (arith, nat_tests) in omega (arith, few, length-append kept.cores (zero_core ∷ []))

-- no second line of section 2 follows the first
first_of_section : (section : ℕ) (lacks_core lacks_boot : Bool) → (((false || (nat_lt 2 section || (true && (2 == section)))) || lacks_core) || lacks_boot) ≡ false → 2 ≤ section → ⊥
first_of_section section lacks_core lacks_boot h reached = by_tests (nat_lt 2 section) (2 == section) lacks_core lacks_boot refl refl h
  where
    by_tests : (later same c d : Bool) → nat_lt 2 section ≡ later → (2 == section) ≡ same → (((false || (later || (true && same))) || c) || d) ≡ false → ⊥
    by_tests true same c d e f h = cc
    by_tests false true c d e f h = cc
    by_tests false false c d e f h = grind (arith, nat_tests)

-- the boot core
boots : (format : Format) (kept : Before) (core : ℕ) → kind_after format kept (Boot core) ≡ None → SoFar format kept → SoFar format (learned kept (Boot core))
unfolding kind_after learned
boots format kept core none so_far = record {
  boot = λ other h. let same : core ≡ other = cc in (subst (λ (n : ℕ). n < length kept.cores) same there, omega arith);
  few = so_far.few;
  early = λ h. cc;
  order = λ other h. order_same (begun kept other) (begun kept other) [] _ refl refl (append-nil kept.steps ∙ so_far.early (no_boot kept.boot refl)) (order-none (begun kept other));
}
  where
    wrong : not (nat_lt core (length kept.cores)) ≡ false
    wrong = fails (kinds_asked format kept (Boot core)) 6 (false, kind.Order) none (lit< tt)

    there : core < length kept.cores
    there = grind (arith, nat_tests)

    no_boot : (boot : Option ℕ) → kept.boot ≡ boot → kept.boot ≡ None
    no_boot None h = h
    no_boot (Some other) h = absurd (first_of_section kept.section _ _ (fails (kinds_asked format kept (Boot core)) 1 (false, kind.Order) none (lit< tt)) (so_far.boot other h).1)

-- a step
steps : (format : Format) (kept : Before) (step : StepLine) → kind_after format kept (Step step) ≡ None → SoFar format kept → SoFar format (learned kept (Step step))
unfolding kind_after learned
steps format kept step none so_far = record {
  boot = λ core h. let old = so_far.boot core h in (old.0, omega (arith, old.1));
  few = so_far.few;
  early = λ h. absurd (after_boot kept.boot has_boot h);
  order = λ core h. order-push (begun kept core) kept.steps step (secondary core h (core_of (first_event step)) wrong boot_step) (not-false _ turn) final (so_far.order core h);
}
  where
    has_boot : is_none kept.boot ≡ false
    has_boot = last_of_four false (is_in_passed_section kept (Step step)) (lacks_core kept (Step step)) (lacks_boot kept (Step step))
        (fails (kinds_asked format kept (Step step)) 1 (false, kind.Order) none (lit< tt))

    after_boot : (boot : Option ℕ) → is_none boot ≡ false → boot ≡ None → ⊥
    after_boot None h none = cc
    after_boot (Some core) h none = cc

    wrong : option_map_or (λ core. not (nat_lt core (length kept.cores))) (core_of (first_event step)) false ≡ false
    wrong = fails (kinds_asked format kept (Step step)) 6 (false, kind.Order) none (lit< tt)

    boot_step : option_map_or (λ core. option_map_or (λ boot. core == boot) kept.boot false) (core_of (first_event step)) false ≡ false
    boot_step = fails (kinds_asked format kept (Step step)) 8 (false, kind.Order) none (lit< tt)

    secondary : (boot : ℕ) → kept.boot ≡ Some boot → (core : Option ℕ) → option_map_or (λ core. not (nat_lt core (length kept.cores))) core false ≡ false
        → option_map_or (λ core. option_map_or (λ boot. core == boot) kept.boot false) core false ≡ false → option_map_or (λ core. nat_lt core (length kept.cores) && not (core == boot)) core true ≡ true
    secondary boot h None within other = refl
    secondary boot h (Some core) within other =
        let apart : (core == boot) ≡ false = ap (λ (o : Option ℕ). option_map_or (λ boot. core == boot) o false) (sym h) ∙ other in
        and_from _ _ (not-false _ within) (ap not apart)

    turn : not (is_in_turn (history kept.steps) (first_event step)) ≡ false
    turn = fails (kinds_asked format kept (Step step)) 9 (false, kind.Order) none (lit< tt)

    final : is_wrong_finalise (history kept.steps) (first_event step) ≡ false
    final = fails (kinds_asked format kept (Step step)) 10 (false, kind.Order) none (lit< tt)

-- one more line without a kind: but for cores, the boot core and steps, a line changes nothing here
pub sound_next : (format : Format) (kept : Before) (line : Line (List ℕ)) → kind_after format kept line ≡ None → SoFar format kept → SoFar format (learned kept line)
unfolding learned
sound_next format kept (Core core) none so_far = begins format kept core none so_far
sound_next format kept (Boot core) none so_far = boots format kept core none so_far
sound_next format kept (Step step) none so_far = steps format kept step none so_far
sound_next format kept (Register reg word) none so_far = stays format kept (learned kept (Register reg word)) (length-set kept.cores _ _) refl (append-nil kept.steps) (omega arith) so_far
sound_next format kept (VectorLengths lengths) none so_far = stays format kept (learned kept (VectorLengths lengths)) (length-set kept.cores _ _) refl (append-nil kept.steps) (omega arith) so_far
sound_next format kept line none so_far = stays format kept (learned kept line) refl refl (append-nil kept.steps) (omega arith) so_far

-- the last line, where the image is not too long
pub sound_last : (format : Format) (kept : Before) (bytes : ℕ) → format.cores ≤ 512 → bytes ≤ 2 ^ 29 → kind_after format kept (Image bytes) ≡ None → SoFar format kept → IsSound (reading_after (learned kept (Image bytes)))
unfolding kind_after learned
sound_last format kept bytes limit short none so_far = record {
  board = record {
    within = (by_boot kept.boot refl there).0;
    few = omega (arith, so_far.few);
    fit = command_line_fits (unwrap_or (option_or None kept.command_line) []);
    plain_ctr = λ index within. listed (unwrap_or (option_or None kept.command_line) []) CtrEl0 index ∙ outside (unwrap_or (option_or None kept.command_line) []) CtrEl0 index refl;
  };
  order = order_same (begun kept (unwrap_or (option_or None kept.boot) 0)) _ _ _ refl refl (append-nil kept.steps) (by_boot kept.boot refl there).1;
  complete = ap (λ (lines : List StepLine). is_complete (history lines)) (append-nil kept.steps) ∙ not-false _ (fails (kinds_asked format kept (Image bytes)) 11 (false, kind.Order) none (lit< tt));
  image = short;
  table = by_layout kept.layout (fails (kinds_asked format kept (Image bytes)) 13 (false, kind.Order) none (lit< tt));
}
  where
    there : is_none kept.boot ≡ false
    there = boot_there format kept bytes none

    by_boot : (boot : Option ℕ) → kept.boot ≡ boot → is_none boot ≡ false → (unwrap_or (option_or None boot) 0 < length kept.cores) × (in_order (begun kept (unwrap_or (option_or None boot) 0)) (history kept.steps) ≡ true)
    by_boot None known h = cc
    by_boot (Some core) known h = ((so_far.boot core known).0, so_far.order core known)

    by_layout : (layout : Option Layout) → option_map_or (λ (layout : Layout). nat_lt bytes (layout.table + 12 * layout.count)) layout false ≡ false → (unwrap_or (option_or None layout) (record { table = 0; count = 0 })).table + 12 * (unwrap_or (option_or None layout) (record { table = 0; count = 0 })).count ≤ bytes
    by_layout None h = omega arith
    by_layout (Some layout) h = grind (arith, nat_tests)
