-- The definitions, evaluated on the words of some machines.
use Rattle.std.proofs.Common.{◌≡◌, ℕ, List, [], ◌∷◌, Option, Some, map, replicate, refl}
use Rattle.std.specs.Prelude.{slice_get, slice_set}
use Rattle.std.specs.Option.{option_map}
use Rattle.armcaps_rule.specs.Rule.{fold_of}
use Rattle.armcaps_enc.specs.declared.register.SysReg.{SysReg}
use Rattle.armcaps_enc.specs.declared.register.SysReg.TheVariants.{IdAa64Isar0El1, CtrEl0}
use Rattle.armcaps_enc.specs.Registers.{place_of}
use Rattle.armcaps_tables.specs.Rows.{rows_of, ctr_rows, id_aa64isar0_rows}
use Rattle.armcaps_baseline.specs.Baselines.{baseline_word, limiting_machine}

-- machines that have these words in one register, and 0 in the others
abbrev machines : SysReg → List ℕ → List (List ℕ)
machines reg words = map (λ word. slice_set (replicate 17 0) (place_of reg) word) words

-- the machine that limits the field at a place of a register's table
abbrev limit_at : SysReg → ℕ → List ℕ → Option (Option ℕ)
limit_at reg index words = option_map (limiting_machine (machines reg words) reg) (slice_get (rows_of reg) index)

-- the second machine has no SHA1
without_sha1 : baseline_word (machines IdAa64Isar0El1 (0x11120 ∷ 0x11020 ∷ [])) IdAa64Isar0El1 ≡ 0x11020
unfolding baseline_word fold_of id_aa64isar0_rows
without_sha1 = refl

aes_limit : limit_at IdAa64Isar0El1 0 (0x11120 ∷ 0x11020 ∷ []) ≡ Some (Some 0)
unfolding limiting_machine fold_of id_aa64isar0_rows
aes_limit = refl

sha1_limit : limit_at IdAa64Isar0El1 1 (0x11120 ∷ 0x11020 ∷ []) ≡ Some (Some 1)
unfolding limiting_machine fold_of id_aa64isar0_rows
sha1_limit = refl

-- the granule of write-backs: the third machine tells none, which counts as the largest
all_granules : baseline_word (machines CtrEl0 (0x85448004 ∷ 0x84448004 ∷ 0x80448004 ∷ [])) CtrEl0 ≡ 0x80448004
unfolding baseline_word fold_of ctr_rows
all_granules = refl

two_granules : baseline_word (machines CtrEl0 (0x85448004 ∷ 0x84448004 ∷ [])) CtrEl0 ≡ 0x85448004
unfolding baseline_word fold_of ctr_rows
two_granules = refl

cwg_limit : limit_at CtrEl0 4 (0x85448004 ∷ 0x84448004 ∷ 0x80448004 ∷ []) ≡ Some (Some 2)
unfolding limiting_machine fold_of ctr_rows
cwg_limit = refl

erg_limit : limit_at CtrEl0 3 (0x85448004 ∷ 0x84448004 ∷ 0x80448004 ∷ []) ≡ Some (Some 0)
unfolding limiting_machine fold_of ctr_rows
erg_limit = refl

first_cwg_limit : limit_at CtrEl0 4 (0x85448004 ∷ 0x84448004 ∷ []) ≡ Some (Some 0)
unfolding limiting_machine fold_of ctr_rows
first_cwg_limit = refl

-- the instruction cache's policy: 3 and 1 leave the safe value 2, and a machine that has it already limits alone
policies : baseline_word (machines CtrEl0 (0x8444c004 ∷ 0x84444004 ∷ 0x8444c004 ∷ [])) CtrEl0 ≡ 0x84448004
unfolding baseline_word fold_of ctr_rows
policies = refl

policy_limit : limit_at CtrEl0 1 (0x8444c004 ∷ 0x84444004 ∷ 0x8444c004 ∷ []) ≡ Some (Some 1)
unfolding limiting_machine fold_of ctr_rows
policy_limit = refl

safe_policy_limit : limit_at CtrEl0 1 (0x84448004 ∷ 0x8444c004 ∷ []) ≡ Some (Some 0)
unfolding limiting_machine fold_of ctr_rows
safe_policy_limit = refl
