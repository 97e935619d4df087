use Rattle.std.proofs.Common.{arith, string_bytes}
use Rattle.armcaps_top.specs.Document.{documents}
use Rattle.armcaps_top.proofs.Pools.{as_many_read, pool_made}
use Rattle.armcaps_top.proofs.commands.pool.pool.Goals as goal

pub pool_text-requires-clause-some : goal.pool_text-requires-clause-some
pool_text-requires-clause-some c =
    omega (arith, as_many_read c.in_ok-read.read.items c.bring_each.new.machines.items c.deref.result.now c.in_ok-bring_each.ensures.through c.deref.ensures.value, c.in_ok-read.ensures.some)

pub pool_text-requires-clause-few : goal.pool_text-requires-clause-few
pool_text-requires-clause-few c =
    omega (arith, as_many_read c.in_ok-read.read.items c.bring_each.new.machines.items c.deref.result.now c.in_ok-bring_each.ensures.through c.deref.ensures.value, c.in_ok-read.ensures.few)

pub returns-in-Ok : goal.returns-in-Ok
returns-in-Ok c =
    pool_made c.in_ok-read.read.items (documents c.args.bytes.now) c.bring_each.new.machines.items c.deref.result.now (string_bytes c.in-Ok.text)
    c.in_ok-read.ensures.documents c.in_ok-bring_each.ensures.through c.deref.ensures.value c.in-Ok.ensures
