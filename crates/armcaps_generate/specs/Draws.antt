-- Things drawn from a number, by the linear congruential generator of MMIX (D. E. Knuth, The Art of Computer
-- Programming, section 3.3.4).
use Rattle.std.specs.Prelude.{ℕ, ◌+◌, ◌*◌, ◌/◌, ◌%◌, ◌^◌, zero, suc, List, [], ◌∷◌}

-- something drawn, and the generator's state after it
pub record Drawn (A : Type 0) : Type 0 where
  pub value : A
  pub state : ℕ

-- what is made of something drawn
abbrev pub made : {A B : Type 0} → (A → B) → Drawn A → Drawn B
made make drawn = record { value = make drawn.value; state = drawn.state }

-- the state after a state
abbrev pub next_state : ℕ → ℕ
next_state state = (6364136223846793005 * state + 1442695040888963407) % 2 ^ 64

-- a number: the upper 31 bits of the next state
abbrev pub number_drawn : ℕ → Drawn ℕ
number_drawn state = record { value = next_state state / 2 ^ 33; state = next_state state }

-- so many things, drawn one after the other
unfoldable pub several : {A : Type 0} → (ℕ → Drawn A) → ℕ → ℕ → Drawn (List A)
several draw zero state = record { value = []; state = state }
several draw (suc count) state =
    let first = draw state in
    let others = several draw count first.state in
    record { value = first.value ∷ others.value; state = others.state }
