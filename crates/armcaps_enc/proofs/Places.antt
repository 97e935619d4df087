-- Each register has a place of its own among all registers.
use Rattle.std.proofs.Common.{◌≡◌, ◌<◌, map, get_or, Some, slice_get, refl, sym, ◌∙◌, ap, lit<}
use Rattle.armcaps_enc.specs.declared.register.SysReg.{SysReg}
use Rattle.armcaps_enc.specs.declared.register.SysReg.TheVariants.{MidrEl1}
use Rattle.armcaps_enc.specs.Registers.{place_of, registers}

-- the register at a register's place
pub at_place : (reg : SysReg) → slice_get registers (place_of reg) ≡ Some reg
at_place MidrEl1 = refl
at_place other = refl

-- there are 17 places
pub place_within : (reg : SysReg) → place_of reg < 17
place_within MidrEl1 = lit< tt
place_within other = lit< tt

-- registers at one place are one
pub one_register : (reg other : SysReg) → place_of reg ≡ place_of other → reg ≡ other
one_register reg other same =
    let both : Some reg ≡ Some other = sym (at_place reg) ∙ ap (slice_get registers) same ∙ at_place other in
    cc

-- what a list of a function's values at all registers has at a register's place
pub value_at : {X : Type 0} (f : SysReg → X) (reg : SysReg) (d : X) → get_or (map f registers) (place_of reg) d ≡ f reg
value_at f MidrEl1 d = refl
value_at f other d = refl
