-- The system registers that describe a core, in the order in which texts and reports list them.
use Rattle.std.specs.Prelude.{ℕ, ◌+◌, ◌-◌, ◌*◌, ◌^◌, ◌==◌, Bool, nat_eq, List, [], ◌∷◌, length, take, filter, Option, find, codes}
use Prim.Native.String.{String}
use Rattle.std.specs.List.{starts_with}
use Rattle.std.specs.Str.{bytes_eq}
use Rattle.armcaps_enc.specs.declared.register.SysReg.{SysReg}
use Rattle.armcaps_enc.specs.declared.register.SysReg.TheVariants.{MidrEl1, MpidrEl1, RevidrEl1, IdAa64Pfr0El1, IdAa64Pfr1El1, IdAa64Zfr0El1, IdAa64Smfr0El1, IdAa64Dfr0El1, IdAa64Isar0El1, IdAa64Isar1El1, IdAa64Isar2El1, IdAa64Mmfr0El1, IdAa64Mmfr1El1, IdAa64Mmfr2El1, IdAa64Mmfr3El1, CtrEl0, DczidEl0}

-- the five numbers by which an instruction names a system register (Arm ARM DDI 0487, "op0, op1, CRn, CRm, op2")
pub record Encoding : Type 0 where
  pub op0 : ℕ
  pub op1 : ℕ
  pub crn : ℕ
  pub crm : ℕ
  pub op2 : ℕ

-- a register's encoding, and its name in texts: the manual's, in lower case
pub record Description : Type 0 where
  pub encoding : Encoding
  pub name : List ℕ

-- the description of these five numbers and this name
abbrev described_by : ℕ → ℕ → ℕ → ℕ → ℕ → String → Description
described_by op0 op1 crn crm op2 name = record {
  encoding = record { op0 = op0; op1 = op1; crn = crn; crm = crm; op2 = op2 };
  name = codes name;
}

-- each register's op0, op1, CRn, CRm, op2 and name (Arm ARM DDI 0487, "General system control registers")
abbrev pub description : SysReg → Description
description MidrEl1 = described_by 3 0 0 0 0 "midr_el1"
description MpidrEl1 = described_by 3 0 0 0 5 "mpidr_el1"
description RevidrEl1 = described_by 3 0 0 0 6 "revidr_el1"
description IdAa64Pfr0El1 = described_by 3 0 0 4 0 "id_aa64pfr0_el1"
description IdAa64Pfr1El1 = described_by 3 0 0 4 1 "id_aa64pfr1_el1"
description IdAa64Zfr0El1 = described_by 3 0 0 4 4 "id_aa64zfr0_el1"
description IdAa64Smfr0El1 = described_by 3 0 0 4 5 "id_aa64smfr0_el1"
description IdAa64Dfr0El1 = described_by 3 0 0 5 0 "id_aa64dfr0_el1"
description IdAa64Isar0El1 = described_by 3 0 0 6 0 "id_aa64isar0_el1"
description IdAa64Isar1El1 = described_by 3 0 0 6 1 "id_aa64isar1_el1"
description IdAa64Isar2El1 = described_by 3 0 0 6 2 "id_aa64isar2_el1"
description IdAa64Mmfr0El1 = described_by 3 0 0 7 0 "id_aa64mmfr0_el1"
description IdAa64Mmfr1El1 = described_by 3 0 0 7 1 "id_aa64mmfr1_el1"
description IdAa64Mmfr2El1 = described_by 3 0 0 7 2 "id_aa64mmfr2_el1"
description IdAa64Mmfr3El1 = described_by 3 0 0 7 3 "id_aa64mmfr3_el1"
description CtrEl0 = described_by 3 3 0 0 1 "ctr_el0"
description DczidEl0 = described_by 3 3 0 0 7 "dczid_el0"

-- the five numbers in one (Linux, arch/arm64/include/asm/sysreg.h, `sys_reg`)
abbrev pub encoded : ℕ → ℕ → ℕ → ℕ → ℕ → ℕ
encoded op0 op1 crn crm op2 = op0 * 2 ^ 19 + op1 * 2 ^ 16 + crn * 2 ^ 12 + crm * 2 ^ 8 + op2 * 2 ^ 5

-- a register's number
unfoldable pub number_of : SysReg → ℕ
number_of register = let e = (description register).encoding in encoded e.op0 e.op1 e.crn e.crm e.op2

-- a register's name in texts
abbrev pub name_of : SysReg → List ℕ
name_of register = (description register).name

-- a register's name without its exception level, `_el1` or `_el0`, as `id_aa64pfr0` and `ctr`
abbrev pub short_name_of : SysReg → List ℕ
short_name_of register = take (length (name_of register) - 4) (name_of register)

-- a register's place in the order
abbrev pub place_of : SysReg → ℕ
place_of MidrEl1 = 0
place_of MpidrEl1 = 1
place_of RevidrEl1 = 2
place_of IdAa64Pfr0El1 = 3
place_of IdAa64Pfr1El1 = 4
place_of IdAa64Zfr0El1 = 5
place_of IdAa64Smfr0El1 = 6
place_of IdAa64Dfr0El1 = 7
place_of IdAa64Isar0El1 = 8
place_of IdAa64Isar1El1 = 9
place_of IdAa64Isar2El1 = 10
place_of IdAa64Mmfr0El1 = 11
place_of IdAa64Mmfr1El1 = 12
place_of IdAa64Mmfr2El1 = 13
place_of IdAa64Mmfr3El1 = 14
place_of CtrEl0 = 15
place_of DczidEl0 = 16

-- the registers whose fields all cores together decide
abbrev pub tracked : List SysReg
tracked =
    IdAa64Pfr0El1 ∷ IdAa64Pfr1El1 ∷ IdAa64Zfr0El1 ∷ IdAa64Smfr0El1 ∷ IdAa64Dfr0El1 ∷ IdAa64Isar0El1
    ∷ IdAa64Isar1El1 ∷ IdAa64Isar2El1 ∷ IdAa64Mmfr0El1 ∷ IdAa64Mmfr1El1 ∷ IdAa64Mmfr2El1 ∷ IdAa64Mmfr3El1
    ∷ CtrEl0 ∷ DczidEl0 ∷ []

-- all registers
abbrev pub registers : List SysReg
registers = MidrEl1 ∷ MpidrEl1 ∷ RevidrEl1 ∷ tracked

-- whether a register is one of those that the manual calls ID registers, whose names begin with `id_`
abbrev pub is_id_register : SysReg → Bool
is_id_register register = starts_with nat_eq (name_of register) (codes "id_")

-- the tracked ones among them: all tracked registers but CTR_EL0 and DCZID_EL0
abbrev pub id_registers : List SysReg
id_registers = filter is_id_register tracked

-- the register that has the number
unfoldable pub register_numbered : ℕ → Option SysReg
register_numbered number = find (λ register. number_of register == number) registers

-- the register that has the name
unfoldable pub register_named : List ℕ → Option SysReg
register_named name = find (λ register. bytes_eq (name_of register) name) registers
