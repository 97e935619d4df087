-- The flags of a class as the bits that the code keeps (Linux, arch/arm64/include/asm/cpufeature.h,
-- `ARM64_CPUCAP_SCOPE_BOOT_CPU` and the flags beside it).
use Rattle.std.specs.Prelude.{ℕ, ◌+◌, Bool, if◌then◌else◌}
use Rattle.armcaps_caps.specs.Class.{Class, in_boot_scope, in_local_scope, in_system_scope, permitted, optional, panic}

-- a flag's bit where the flag is set
abbrev pub bit : Bool → ℕ → ℕ
bit set value = if set then value else 0

-- the sum of the bits of a class's flags
abbrev pub flags_of : Class → ℕ
flags_of class =
    bit (in_boot_scope class) 1 + bit (in_local_scope class) 2 + bit (in_system_scope class) 4
    + bit (permitted class) 8 + bit (optional class) 16 + bit (panic class) 32
