-- The classes of capabilities: where a capability is decided, and what cores may have or lack that come up later.
use Rattle.std.specs.Prelude.{Bool, true, false}

-- the five classes (Linux, arch/arm64/include/asm/cpufeature.h, `ARM64_CPUCAP_SYSTEM_FEATURE` and the four beside it)
pub data Class : Type 0 where
  system_feature : Class
  erratum : Class
  weak_local_feature : Class
  boot_feature : Class
  strict_boot_feature : Class

-- decided on the boot core alone, before any other core comes up
abbrev pub in_boot_scope : Class → Bool
in_boot_scope boot_feature = true
in_boot_scope strict_boot_feature = true
in_boot_scope _ = false

-- decided on each core alone: it is enabled where one of the early cores has it
abbrev pub in_local_scope : Class → Bool
in_local_scope erratum = true
in_local_scope weak_local_feature = true
in_local_scope _ = false

-- decided over all early cores together
abbrev pub in_system_scope : Class → Bool
in_system_scope system_feature = true
in_system_scope _ = false

-- a core that comes later may have it though it is not enabled
abbrev pub permitted : Class → Bool
permitted system_feature = true
permitted weak_local_feature = true
permitted boot_feature = true
permitted _ = false

-- a core that comes later may lack it though it is enabled
abbrev pub optional : Class → Bool
optional erratum = true
optional weak_local_feature = true
optional _ = false

-- a core that comes later and conflicts with it stops the whole machine
abbrev pub panic : Class → Bool
panic strict_boot_feature = true
panic _ = false

-- whether it is a workaround for an erratum
abbrev pub workaround : Class → Bool
workaround erratum = true
workaround _ = false
