use Rattle.std.proofs.Common.{◌≡◌, ◌+◌, ◌-◌, ap, arith, drop, get_or, length, length-drop, length-take, refl, ◌∙◌}
use Rattle.std.proofs.lemmas.List.{get_or-drop, get_or-take}
use Rattle.armcaps_elf.proofs.Flat.{put_is}
use Rattle.armcaps_elf.proofs.flattening.put_section.Goals as goal

pub returns : goal.returns
returns c = λ j.
    let s = c.args.section.now in
    let file = c.args.file.now in
    let flat = c.args.flat.now in
    let a = s.address - c.args.base in
    let k = a + s.size - a in
    let n = s.place + s.size - s.place in
    let len : length c.copy_from_slice.new.self ≡ k =
    ap length c.copy_from_slice.ensures.after ∙ omega (arith, length-take n (drop s.place file), length-drop s.place file) in
    put_is flat file c.copy_from_slice.new.self c.args.base s a k j refl (omega arith) c.requires.above c.requires.below len (λ i low.
    ap (λ xs. get_or xs i 0) c.copy_from_slice.ensures.after
    ∙ (get_or-take n (drop s.place file) i 0 (omega arith) ∙ get_or-drop s.place file i 0))
