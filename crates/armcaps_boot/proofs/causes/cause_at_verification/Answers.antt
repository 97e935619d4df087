use Rattle.std.proofs.Common.{◌∙◌, sym}
use Rattle.armcaps_boot.specs.Scopes.{lack_of}
use Rattle.armcaps_logic.proofs.Options.{none_from_never}
use Rattle.armcaps_boot.proofs.causes.cause_at_verification.Goals as goal

pub returns-in-Some-clause-cause : goal.returns-in-Some-clause-cause
unfolding lack_of
returns-in-Some-clause-cause c = let conflict = c.in-Some.ensures.first in rw (← conflict)

pub returns-in-Some-first_lacking_hwcap-clause-cause : goal.returns-in-Some-first_lacking_hwcap-clause-cause
unfolding lack_of
returns-in-Some-first_lacking_hwcap-clause-cause c =
    let conflict = c.first_conflict.ensures.first in let none = none_from_never c.first_conflict.result c.in_default.not-Some in
    let is = sym conflict ∙ none in let lacks = c.in-Some-first_lacking_hwcap.ensures in rw (is, ← lacks)

pub returns-in-Some-first_lacking_length-clause-cause : goal.returns-in-Some-first_lacking_length-clause-cause
unfolding lack_of
returns-in-Some-first_lacking_length-clause-cause c =
    let is = sym c.first_conflict.ensures.first ∙ none_from_never c.first_conflict.result c.in_default.not-Some in
    let none = sym c.first_lacking_hwcap.ensures ∙ none_from_never c.first_lacking_hwcap.result c.in_default-first_lacking_hwcap.not-Some in
    let lacks = c.in-Some-first_lacking_length.ensures in rw (is, none, ← lacks)

pub returns-in-None-clause-cause : goal.returns-in-None-clause-cause
unfolding lack_of
returns-in-None-clause-cause c =
    let is = sym c.first_conflict.ensures.first ∙ none_from_never c.first_conflict.result c.in_default.not-Some in
    let none = sym c.first_lacking_hwcap.ensures ∙ none_from_never c.first_lacking_hwcap.result c.in_default-first_lacking_hwcap.not-Some in
    let lacks = c.in-None.ensures in rw (is, none, ← lacks)
