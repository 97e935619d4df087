-- One site more.
use Rattle.std.proofs.Common.{◌+◌, ◌%◌, ◌<◌, ◌∙◌, ap, arith, cond, get_or, length, sym}
use Rattle.armcaps_image.specs.Bytes.{byte_of}
use Rattle.armcaps_jump.specs.declared.site.Site.{Site}
use Rattle.armcaps_jump.specs.Jumped.{has_byte}
use Rattle.armcaps_jump.proofs.Putting.{byte_by-more, put_one}
use Rattle.armcaps_jump.proofs.jumped.put_sites.Goals as goal

pub loop-site-preserved : goal.loop-site-preserved
loop-site-preserved c = λ j within.
    let k = c.loop-site.site-index in
    let nothing : Site = record { place = 0; word = 0 } in
    let inside : k < length c.args.sites.now = omega arith in
    let site : Site = get_or c.args.sites.now k nothing in
    let put = c.put_word.ensures j in
    let here = put_one c.args.from _ j (get_or c.loop-site.buffer j 0) site c.requires.begins (c.requires.sites k nothing inside) in
    let before = c.loop-site.invariant j (omega arith) in
    let more = byte_by-more c.args.sites.now k nothing (c.args.from + j) (get_or c.args.buffer.now j 0) inside in
    put ∙ here ∙ ap (λ v. cond (has_byte (c.args.from + j) site) (byte_of site.word ((c.args.from + j) % 4)) v) before ∙ sym more
