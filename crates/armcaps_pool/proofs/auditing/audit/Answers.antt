use Rattle.std.proofs.Common.{length}
use Rattle.armcaps_alt.specs.Patched.{patched_image}
use Rattle.armcaps_pool.specs.Audits.{features_of}
use Rattle.armcaps_pool.proofs.Verdicts.{names_first}
use Rattle.armcaps_pool.proofs.auditing.audit.Goals as goal

pub returns : goal.returns
returns c =
    names_first c.args.patched.now (patched_image (features_of c.args.names.now c.args.enabled.now c.args.ctr)
    c.args.image.now (record { table = c.args.table; count = c.args.count })) (length c.args.image.now)
    c.first_wrong-first.result c.verdict_at.result c.requires.same c.first_wrong-first.ensures c.verdict_at.ensures
