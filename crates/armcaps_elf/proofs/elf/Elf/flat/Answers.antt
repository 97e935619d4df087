use Rattle.std.proofs.Common.{◌≡◌, ◌+◌, ap, arith, length, ◌∙◌}
use Rattle.std.proofs.lemmas.List.{take_at}
use Rattle.armcaps_elf.specs.Images.{byte_at}
use Rattle.armcaps_elf.proofs.Flat.{flat_is}
use Rattle.armcaps_elf.proofs.elf.Elf.flat.Goals as goal

pub returns-clause-bytes : goal.returns-clause-bytes
returns-clause-bytes c =
    let image = c.put_sections.new.flat in
    let file = c.args.bytes.now in
    let loaded = c.args.self.now in
    let size : length image ≡ c.in_ok-flat.flat.len = omega (arith, c.put_sections.auto.flat, c.deref_mut.ensures.len) in
    let span : length image ≡ loaded.span = omega (arith, size, c.in_ok-flat.ensures.len, c.span.ensures.span) in
    take_at image _ c.in_ok-flat.flat.len size
    ∙ flat_is loaded file image c.requires span (λ j.
    c.put_sections.ensures j
    ∙ (ap (λ base. byte_at c.loaded.result.now file (base + j)) c.base.ensures
    ∙ ap (λ sections. byte_at sections file (loaded.base + j)) c.loaded.ensures.sections))

pub put_sections-requires-clause-above : goal.put_sections-requires-clause-above
put_sections-requires-clause-above c = λ k d within. omega (arith, c.base.ensures, c.loaded.ensures.above k d within)

pub put_sections-requires-clause-below : goal.put_sections-requires-clause-below
put_sections-requires-clause-below c = λ k d within.
    let size : length c.deref_mut.result.now ≡ c.args.self.now.span =
    omega (arith, c.deref_mut.ensures.len, c.in_ok-flat.ensures.len, c.span.ensures.span) in
    omega (arith, size, c.base.ensures, c.loaded.ensures.below k d within)
