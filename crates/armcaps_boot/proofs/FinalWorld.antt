-- The machine that the code makes of one that is finalised.
use Rattle.std.proofs.Common.{◌≡◌, ◌<◌, ℕ, Bool, true, false, cond, List, None, ◌∙◌, ap, subst, lit<}
use Rattle.armcaps_enc.specs.declared.register.SysReg.TheVariants.{CtrEl0}
use Rattle.armcaps_tables.specs.Core.{Core, word_at}
use Rattle.armcaps_sanit.specs.System.{IsSystemOf}
use Rattle.armcaps_caps.specs.Set.{holds}
use Rattle.armcaps_hwcap.specs.declared.hw_set.HwSet.{HwSet}
use Rattle.armcaps_hwcap.specs.Hwcaps.{system_has_hwcap}
use Rattle.armcaps_hwcap.specs.Words.{IsAdvertised, hwcap_word, hwcap2_word}
use Rattle.armcaps_boot.specs.Answers.{first_in_flight}
use Rattle.armcaps_boot.specs.Causes.{capability_enabled, hwcap_advertised}
use Rattle.armcaps_boot.specs.Changes.{final_world}
use Rattle.armcaps_boot.specs.Facts.{Facts}
use Rattle.armcaps_boot.specs.Numbers.{numbers}
use Rattle.armcaps_boot.specs.Scopes.{enabled_by}
use Rattle.armcaps_boot.specs.World.{World, early_cores}
use Rattle.armcaps_hwcap.proofs.Shown.{is_advertised}
use Rattle.armcaps_boot.proofs.Asked.{decided-enabled}
use Rattle.armcaps_boot.proofs.Finalising.{all_early}
use Rattle.armcaps_boot.proofs.FirstNumbers.{numbers-same}

-- a choice by a test that is known
pub lengths_by : (on other : Bool) (kept : ℕ) → on ≡ other → cond on kept 0 ≡ cond other kept 0
lengths_by on other kept same = ap (λ (b : Bool). cond b kept 0) same

abbrev finalled : World → List Bool → HwSet → ℕ → ℕ → World
finalled w enabled hwcaps ctr lengths = record w { final = true; enabled = enabled; hwcaps = hwcaps; final_ctr = ctr; lengths = lengths }

pub final_world-same : (w : World) (f : Facts w) → w.final ≡ false → first_in_flight w.states ≡ None
    → (enabled noted more : ℕ) → w.enabled ≡ numbers 53 (holds enabled) → w.noted ≡ numbers 53 (holds noted)
    → ((n : ℕ) → n < 53 → holds more n ≡ enabled_by enabled noted w.system n)
    → (hwcaps : HwSet) → hwcaps.hwcap ≡ hwcap_word (system_has_hwcap w.system) → hwcaps.hwcap2 ≡ hwcap2_word (system_has_hwcap w.system)
    → (ctr : ℕ) → ctr ≡ word_at w.system CtrEl0
    → (lengths : ℕ) → lengths ≡ cond (holds more 36) w.common_lengths 0
    → record w { final = true; enabled = numbers 53 (holds more); hwcaps = hwcaps; final_ctr = ctr; lengths = lengths } ≡ final_world w
final_world-same w f final none enabled noted more enabled_is noted_is holds_more hwcaps first second ctr ctr_is lengths lengths_are =
    ap (λ (x : List Bool). finalled w x hwcaps ctr lengths) (numbers-same _ _ 53 decided)
    ∙ ap (λ (x : ℕ). finalled w (numbers 53 (capability_enabled w.board (early_cores w.board w.states))) (record { hwcap = x; hwcap2 = hwcaps.hwcap2 }) ctr lengths)
    shown.hwcap
    ∙ ap (λ (x : ℕ). finalled w (numbers 53 (capability_enabled w.board (early_cores w.board w.states)))
    (record { hwcap = hwcap_word (hwcap_advertised w.board (early_cores w.board w.states)); hwcap2 = x }) ctr lengths)
    shown.hwcap2
    ∙ ap (λ (x : ℕ). finalled w (numbers 53 (capability_enabled w.board (early_cores w.board w.states)))
    (record { hwcap = hwcap_word (hwcap_advertised w.board (early_cores w.board w.states)); hwcap2 = hwcap2_word (hwcap_advertised w.board (early_cores w.board w.states)) }) x lengths) ctr_is
    ∙ ap (λ (x : ℕ). finalled w (numbers 53 (capability_enabled w.board (early_cores w.board w.states)))
    (record { hwcap = hwcap_word (hwcap_advertised w.board (early_cores w.board w.states)); hwcap2 = hwcap2_word (hwcap_advertised w.board (early_cores w.board w.states)) }) (word_at w.system CtrEl0) x)
    (lengths_are ∙ ap (λ (b : Bool). cond b w.common_lengths 0) (decided 36 (lit< tt)))
  where
    decided : (n : ℕ) → n < 53 → holds more n ≡ capability_enabled w.board (early_cores w.board w.states) n
    decided n within = holds_more n within ∙ decided-enabled w f final none enabled noted enabled_is noted_is n within

    shown : IsAdvertised w.board.overrides (early_cores w.board w.states) hwcaps
    shown =
        is_advertised w.board.overrides (early_cores w.board w.states) w.system hwcaps
        (subst (λ (l : List Core). IsSystemOf w.board.overrides l w.system) (all_early w f final) f.system) first second
