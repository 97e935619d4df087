-- Things that are drawn one after the other.
use Rattle.std.proofs.Common.{◌≡◌, ℕ, zero, suc, ◌+◌, ◌-◌, ◌%◌, ◌<◌, ◌≤◌, List, [], ◌∷◌, ◌++◌, length, refl, sym, ap, ◌∙◌, arith, append_assoc, append-nil, lit<}
use Rattle.std.specs.List.{All}
use Rattle.std.proofs.lemmas.Nat.{mod_below}
use Rattle.armcaps_generate.specs.Alternatives.{instruction_drawn, alternative_drawn}
use Rattle.armcaps_generate.specs.Draws.{Drawn, several, number_drawn}

-- a list, and what is drawn after it
abbrev pub then_drawn : {A : Type 0} → List A → Drawn (List A) → Drawn (List A)
then_drawn items drawn = record { value = items ++ drawn.value; state = drawn.state }

pub drawn_first : {A : Type 0} (drawn : Drawn (List A)) → drawn ≡ then_drawn [] drawn
drawn_first drawn = refl

-- one more is drawn
pub drawn_next : {A : Type 0} (draw : ℕ → Drawn A) (count done state : ℕ) (items : List A) (whole : Drawn (List A)) (value : A) (next : ℕ) → done < count → draw state ≡ record { value = value; state = next } → whole ≡ then_drawn items (several draw (count - done) state) → whole ≡ then_drawn (items ++ value ∷ []) (several draw (count - (done + 1)) next)
unfolding several
drawn_next {A} draw count done state items whole value next more drawn so_far =
    let left : count - done ≡ suc (count - (done + 1)) = omega arith in
    so_far ∙ ap (λ (n : ℕ). then_drawn items (several draw n state)) left
    ∙ ap (λ (first : Drawn A). then_drawn items (record { value = first.value ∷ (several draw (count - (done + 1)) first.state).value; state = (several draw (count - (done + 1)) first.state).state })) drawn
    ∙ ap (λ (list : List A). record { value = list; state = (several draw (count - (done + 1)) next).state }) (sym (append_assoc items (value ∷ []) (several draw (count - (done + 1)) next).value))

-- all are drawn
pub drawn_all : {A : Type 0} (draw : ℕ → Drawn A) (count done state : ℕ) (items : List A) (whole : Drawn (List A)) → count ≤ done → whole ≡ then_drawn items (several draw (count - done) state) → whole ≡ record { value = items; state = state }
unfolding several
drawn_all {A} draw count done state items whole ended so_far =
    let left : count - done ≡ 0 = omega arith in
    so_far ∙ ap (λ (n : ℕ). then_drawn items (several draw n state)) left ∙ ap (λ (list : List A). record { value = list; state = state }) (append-nil items)

pub length-several : {A : Type 0} (draw : ℕ → Drawn A) (count state : ℕ) → length (several draw count state).value ≡ count
unfolding several
length-several draw zero state = refl
length-several draw (suc count) state = ap suc (length-several draw count (draw state).state)

-- what holds of each thing that can be drawn holds of all that are
pub each_drawn : {A : Type 0} (draw : ℕ → Drawn A) (P : A → Type 0) → ((state : ℕ) → P (draw state).value) → (count state : ℕ) → All P (several draw count state).value
unfolding several
each_drawn draw P holds zero state k d within = absurd (omega arith)
each_drawn draw P holds (suc count) state zero d within = holds state
each_drawn draw P holds (suc count) state (suc k) d within = each_drawn draw P holds count (draw state).state k d (omega arith)

-- an alternative has one to four instructions
pub few_instructions : (state : ℕ) → length (alternative_drawn state).value.instructions ≤ 4
few_instructions state =
    let first = number_drawn state in
    let second = number_drawn first.state in
    omega (arith, length-several instruction_drawn (1 + first.value % 4) second.state, mod_below first.value 4 (lit< tt))
