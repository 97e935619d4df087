-- An image whose table has every kind of entry, none of which is refused.
use Rattle.std.proofs.Common.{◌≡◌, ℕ, List, [], ◌∷◌, None, true, refl}
use Rattle.armcaps_insn.specs.Encodings.{class_of, encodings}
use Rattle.armcaps_alt.specs.declared.callback_kind.CallbackKind.TheVariants as callback
use Rattle.armcaps_alt.specs.declared.named_number.Named.TheVariants.{Given}
use Rattle.armcaps_alt.specs.declared.smccc_conduit.Conduit.TheVariants as conduit
use Rattle.armcaps_alt.specs.Refusals.{first_refusal}
use Rattle.armcaps_pool.specs.Audits.{features_of}

abbrev pub worked_image : List ℕ
worked_image =
    84 ∷ 0 ∷ 0 ∷ 0 ∷ 116 ∷ 0 ∷ 0 ∷ 0 ∷ 1 ∷ 0 ∷ 8 ∷ 8 ∷ 76 ∷ 0 ∷ 0 ∷ 0 ∷ 112 ∷ 0 ∷ 0 ∷ 0 ∷ 1 ∷ 0 ∷ 4 ∷ 4 ∷ 68 ∷ 0 ∷ 0 ∷ 0 ∷ 172 ∷ 0 ∷ 0 ∷ 0 ∷ 1 ∷ 128
    ∷ 4 ∷ 0 ∷ 220 ∷ 255 ∷ 255 ∷ 255 ∷ 92 ∷ 0 ∷ 0 ∷ 0 ∷ 1 ∷ 0 ∷ 4 ∷ 4 ∷ 48 ∷ 0 ∷ 0 ∷ 0 ∷ 152 ∷ 0 ∷ 0 ∷ 0 ∷ 1 ∷ 128 ∷ 16 ∷ 0 ∷ 52 ∷ 0 ∷ 0 ∷ 0 ∷ 144 ∷ 0 ∷ 0 ∷ 0
    ∷ 1 ∷ 128 ∷ 4 ∷ 0 ∷ 44 ∷ 0 ∷ 0 ∷ 0 ∷ 136 ∷ 0 ∷ 0 ∷ 0 ∷ 1 ∷ 128 ∷ 4 ∷ 0 ∷ 245 ∷ 3 ∷ 0 ∷ 170 ∷ 246 ∷ 3 ∷ 0 ∷ 170 ∷ 247 ∷ 3 ∷ 0 ∷ 170 ∷ 35 ∷ 0 ∷ 59 ∷ 213 ∷ 249 ∷ 3
    ∷ 0 ∷ 170 ∷ 250 ∷ 3 ∷ 0 ∷ 170 ∷ 251 ∷ 3 ∷ 0 ∷ 170 ∷ 252 ∷ 3 ∷ 0 ∷ 170 ∷ 253 ∷ 3 ∷ 0 ∷ 170 ∷ 226 ∷ 255 ∷ 255 ∷ 23 ∷ 1 ∷ 0 ∷ 0 ∷ 20 ∷ 31 ∷ 32 ∷ 3 ∷ 213 ∷ 3 ∷ 0 ∷ 0 ∷ 212 ∷ []

pub none_refused : (enabled ctr : ℕ)
    → first_refusal (features_of (record {
      numbers = (1, Given true) ∷ [];
      callbacks = (200, callback.Nops) ∷ (204, callback.FinalCtr) ∷ (208, callback.Conduit) ∷ (212, callback.Keep) ∷ [];
      conduit = conduit.Hvc;
    }) enabled ctr) worked_image (record { table = 0; count = 7 }) ≡ None
unfolding class_of encodings
none_refused enabled ctr = refl
