-- What is known of a step that may come next, and of cores on their way up.
use Rattle.std.proofs.Common.{◌≡◌, ◌<◌, ℕ, Bool, true, false, not, ◌&&◌, ◌||◌, nat_lt, List, [], ◌∷◌, length, filter_map, Option, Some, None, refl, sym, ◌∙◌, ap, get_or}
use Rattle.std.specs.Prelude.{◌==◌}
use Rattle.std.specs.List.{list_any, cons_option}
use Rattle.std.specs.Option.{option_map_or}
use Rattle.std.proofs.lemmas.Bool.Decides.{Decides-ltb, Decides-eqb, not_from_Decides}
use Rattle.std.proofs.lemmas.List.Folds.{list_any_none}
use Rattle.armcaps_board.specs.declared.event.Event.{Event}
use Rattle.armcaps_board.specs.Board.{Board}
use Rattle.armcaps_board.specs.Order.{can_follow, in_order, is_begun_last, is_in_turn, is_next, is_of_secondary, is_some_in_flight, is_wrong_finalise}
use Rattle.armcaps_board.specs.Steps.{core_of, is_final, is_finalise, is_step_of, last_step}
use Rattle.std.proofs.lemmas.Bool.{and_from, and_parts, not-true, not_from_false, or_left, or_parts, or_right}

-- what a step leaves of the last step of a core
pub last-other : (k : ℕ) (e : Event) (p : List Event) → is_step_of k e ≡ false → last_step k (e ∷ p) ≡ last_step k p
last-other k e p other = rw other

pub last-own : (k : ℕ) (e : Event) (p : List Event) → is_step_of k e ≡ true → last_step k (e ∷ p) ≡ Some e
last-own k e p own = rw own

-- what is known of a core's step that may come next
pub record IsTurn (board : Board) (p : List Event) (e : Event) (k : ℕ) : Type 0 where
  pub within : k < length board.cores
  pub not_boot : k ≡ board.boot → ⊥
  pub follows : can_follow (last_step k p) e ≡ true

pub turn_of : (board : Board) (p : List Event) (e : Event) (k : ℕ) → core_of e ≡ Some k → is_next board p e ≡ true → IsTurn board p e k
unfolding is_next
turn_of board p e k of next = record {
  within = (Decides-ltb k (length board.cores)).0 ((and_parts (nat_lt k (length board.cores)) (not (k == board.boot)) secondary).0);
  not_boot = not_from_Decides (k == board.boot) (Decides-eqb k board.boot) (not-true (k == board.boot) ((and_parts (nat_lt k (length board.cores)) (not (k == board.boot)) secondary).1));
  follows = sym (ap (λ (o : Option ℕ). option_map_or (λ core. can_follow (last_step core p) e) o true) of) ∙ turn;
} where
  first : (is_of_secondary board e && is_in_turn p e) ≡ true
  first = (and_parts (is_of_secondary board e && is_in_turn p e) (not (is_wrong_finalise p e)) next).0

  turn : is_in_turn p e ≡ true
  turn = (and_parts (is_of_secondary board e) (is_in_turn p e) first).1

  secondary : (nat_lt k (length board.cores) && not (k == board.boot)) ≡ true
  secondary = sym (ap (λ (o : Option ℕ). option_map_or (λ core. nat_lt core (length board.cores) && not (core == board.boot)) o true) of)
      ∙ (and_parts (is_of_secondary board e) (is_in_turn p e) first).0

pub secondary_of : (board : Board) (p : List Event) (e : Event) → is_next board p e ≡ true → is_of_secondary board e ≡ true
unfolding is_next
secondary_of board p e next =
    (and_parts (is_of_secondary board e) (is_in_turn p e) ((and_parts (is_of_secondary board e && is_in_turn p e) (not (is_wrong_finalise p e)) next).0)).0

-- a step may come next by what is asked of it
pub next_by : (board : Board) (p : List Event) (e : Event) → is_of_secondary board e ≡ true → is_in_turn p e ≡ true → is_wrong_finalise p e ≡ false
    → is_next board p e ≡ true
unfolding is_next
next_by board p e secondary turn final =
    and_from (is_of_secondary board e && is_in_turn p e) (not (is_wrong_finalise p e))
    (and_from (is_of_secondary board e) (is_in_turn p e) secondary turn) (not_from_false (is_wrong_finalise p e) final)

-- a test that a core with a step passes is passed by some core that made one
among : (test : ℕ → Bool) (k : ℕ) → test k ≡ true → (p : List Event) (last : Event) → last_step k p ≡ Some last → list_any test (filter_map core_of p) ≡ true
among test k passes [] last is = absurd (let no : ⊥ = cc in no)
among test k passes (e ∷ p) last is = by (is_step_of k e) refl (among test k passes p last) where
  own_first : (o : Option ℕ) → option_map_or (λ (c : ℕ). c == k) o false ≡ true → list_any test (cons_option o (filter_map core_of p)) ≡ true
  own_first None own = absurd (let no : ⊥ = cc in no)
  own_first (Some c) own = or_left (test c) (list_any test (filter_map core_of p)) (ap test ((Decides-eqb c k).0 own) ∙ passes)

  later : (o : Option ℕ) → list_any test (filter_map core_of p) ≡ true → list_any test (cons_option o (filter_map core_of p)) ≡ true
  later None more = more
  later (Some c) more = or_right (test c) (list_any test (filter_map core_of p)) more

  by : (b : Bool) → is_step_of k e ≡ b → (last_step k p ≡ Some last → list_any test (filter_map core_of p) ≡ true) → list_any test (filter_map core_of (e ∷ p)) ≡ true
  by true own more = own_first (core_of e) own
  by false other more = later (core_of e) (more (sym (last-other k e p other) ∙ is))

-- where no core is on its way up, none is
pub none_in_flight : (p : List Event) → is_some_in_flight p ≡ false → (k : ℕ) → is_begun_last (last_step k p) ≡ false
unfolding is_some_in_flight
none_in_flight p none k = by (last_step k p) refl where
  test : ℕ → Bool
  test core = is_begun_last (last_step core p)

  on : (b : Bool) → test k ≡ b → (last : Event) → last_step k p ≡ Some last → b ≡ false
  on true is last some = sym (among test k is p last some) ∙ none
  on false is last some = refl

  by : (o : Option Event) → last_step k p ≡ o → is_begun_last (last_step k p) ≡ false
  by None is = ap is_begun_last is
  by (Some e) is = on (test k) refl e is

pub flight_none : (p : List Event) → ((k : ℕ) → is_begun_last (last_step k p) ≡ false) → is_some_in_flight p ≡ false
unfolding is_some_in_flight
flight_none p none = list_any_none (λ core. is_begun_last (last_step core p)) (filter_map core_of p) (λ k d lt. none (get_or (filter_map core_of p) k d))

-- at finalisation it was not done before, and no core is on its way up
pub settled : (board : Board) (p : List Event) (e : Event) → is_next board p e ≡ true → is_finalise e ≡ true
    → (is_final p ≡ false) × ((k : ℕ) → is_begun_last (last_step k p) ≡ false)
unfolding is_next
settled board p e next final =
    ((or_parts (is_final p) (is_some_in_flight p) neither).0, none_in_flight p ((or_parts (is_final p) (is_some_in_flight p) neither).1)) where
      neither : (is_final p || is_some_in_flight p) ≡ false
      neither = sym (ap (λ (b : Bool). b && (is_final p || is_some_in_flight p)) final)
          ∙ not-true (is_wrong_finalise p e) ((and_parts (is_of_secondary board e && is_in_turn p e) (not (is_wrong_finalise p e)) next).1)

-- the order looks at the number of cores and the boot core alone
pub order-same : (one other : Board) (p : List Event) → length one.cores ≡ length other.cores → one.boot ≡ other.boot → in_order one p ≡ in_order other p
unfolding in_order is_next
order-same one other [] count boot = refl
order-same one other (e ∷ p) count boot =
    ap (λ (b : Bool). (b && is_in_turn p e && not (is_wrong_finalise p e)) && in_order one p) secondary
    ∙ ap (λ (b : Bool). (is_of_secondary other e && is_in_turn p e && not (is_wrong_finalise p e)) && b) (order-same one other p count boot) where
      secondary : is_of_secondary one e ≡ is_of_secondary other e
      secondary =
          ap (λ (n : ℕ). option_map_or (λ core. nat_lt core n && not (core == one.boot)) (core_of e) true) count
          ∙ ap (λ (n : ℕ). option_map_or (λ core. nat_lt core (length other.cores) && not (core == n)) (core_of e) true) boot
