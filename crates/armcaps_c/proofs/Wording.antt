-- The words of a line, and which of them are text.
use Rattle.std.proofs.Common.{◌≡◌, ◌∙◌, ◌∷◌, ◌++◌, List, [], length, map, string_bytes, get_or, String, refl, sym, ap, subst, append_assoc, append-nil, arith, All, IsUtf8}
use Rattle.std.proofs.lemmas.List.{get_or_at, length-append, map-append}
use Rattle.std.proofs.lemmas.List.Elements.{All-map}
use Rattle.std.proofs.lemmas.Str.{IsUtf8-string_bytes}

-- what strings hold is text
pub are_text : {Z : Type 0} (words : List (String Z)) → All IsUtf8 (map string_bytes words)
are_text words = All-map IsUtf8 string_bytes words (λ k d within. IsUtf8-string_bytes (get_or words k d))

-- one more word was taken
pub taken : {X Y : Type 0} (f : X → Y) (before : List X) (word : X) (found : Y) (rest more whole : List Y)
    → map f before ++ rest ≡ whole → rest ≡ found ∷ more → f word ≡ found → map f (before ++ word ∷ []) ++ more ≡ whole
taken f before word found rest more whole so_far cut is =
    ap (λ words. words ++ more) (map-append f before (word ∷ []))
    ∙ append_assoc (map f before) (f word ∷ []) more
    ∙ ap (λ first. map f before ++ (first ∷ more)) is
    ∙ ap (λ words. map f before ++ words) (sym cut)
    ∙ so_far

-- where the next word does not pass, not all of the words do
pub not_all : {X : Type 0} (P : X → Type 0) (before : List X) (word : X) (rest more whole : List X)
    → before ++ rest ≡ whole → rest ≡ word ∷ more → (P word → ⊥) → All P whole → ⊥
not_all P before word rest more whole so_far cut not all =
    let joined : before ++ (word ∷ more) ≡ whole = ap (λ words. before ++ words) (sym cut) ∙ so_far in
    let all_of : All P (before ++ (word ∷ more)) = subst (All P) (sym joined) all in
    let long = length-append before (word ∷ more) in
    not (subst P (get_or_at before word more word (length before) refl) (all_of (length before) word (omega (arith, long))))

-- where no word is left the words are all
pub no_more : {X : Type 0} (before rest whole : List X) → before ++ rest ≡ whole → rest ≡ [] → before ≡ whole
no_more before rest whole so_far none =
    sym (append-nil before) ∙ ap (λ words. before ++ words) (sym none) ∙ so_far
