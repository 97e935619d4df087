use Rattle.armcaps_caps.proofs.CacheType.{cache_type_compares}
use Rattle.armcaps_caps.proofs.laws.cache_types_compare.Goals as goal

pub returns : goal.returns
returns c = cache_type_compares
