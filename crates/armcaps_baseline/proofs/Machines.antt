-- The machines of a pool, one after another, as cores that have their words.
use Rattle.std.proofs.Common.{◌≡◌, ℕ, ◌+◌, ◌-◌, ◌<◌, ◌≤◌, ◌==◌, Bool, true, false, not, List, [], ◌∷◌, ◌++◌, length, map, take, drop, get_or, slice_set, refl, sym, ap, subst, ◌∙◌, arith}
use Rattle.std.proofs.lemmas.Bool.{eqb-true}
use Rattle.std.proofs.lemmas.Grind.{common_steps}
use Rattle.std.proofs.lemmas.List.{append-nil, map-append, take_all, take_more}
use Rattle.armcaps_logic.proofs.Searches.{none_in_range}
use Rattle.armcaps_enc.specs.declared.register.SysReg.{SysReg}
use Rattle.armcaps_enc.specs.declared.register.SysReg.TheVariants.{MidrEl1}
use Rattle.armcaps_enc.specs.Registers.{place_of, registers}
use Rattle.armcaps_tables.specs.Core.{Core, word_at}
use Rattle.armcaps_tables.specs.Overriding.{FieldOverrides, no_overrides}
use Rattle.armcaps_sanit.specs.System.{IsSystemOf}
use Rattle.armcaps_sanit.proofs.SystemWords.{Filled, filled_more}
use Rattle.armcaps_baseline.specs.Baselines.{as_core, baseline_words}
use Rattle.armcaps_baseline.proofs.Baselines.{from_system}

not_not : (b : Bool) → not b ≡ false → b ≡ true
not_not true fails = refl
not_not false fails = cc

-- a register stands at its place
place_of_register : (place : ℕ) → place < 17 → place_of (get_or registers place MidrEl1) ≡ place
place_of_register place within =
    eqb-true (place_of (get_or registers place MidrEl1)) place
    (not_not (place_of (get_or registers place MidrEl1) == place)
    (none_in_range (λ p. not (place_of (get_or registers p MidrEl1) == p)) 0 17 refl place (omega arith) (omega arith)))

-- the machine's word of a register, put at the register's place
pub filled_register : (words : List ℕ) (place word : ℕ) (before : List ℕ) (reg : SysReg) → place < 17
    → reg ≡ get_or registers place MidrEl1 → word ≡ word_at words reg
    → Filled (word_at words) place before → Filled (word_at words) (place + 1) (slice_set before (place_of reg) word)
filled_register words place word before reg within is has filled =
    let at : place_of reg ≡ place = ap place_of is ∙ place_of_register place within in
    subst (λ (n : ℕ). Filled (word_at words) (place + 1) (slice_set before n word)) (sym at)
    (filled_more (word_at words) place before word within filled (has ∙ ap (word_at words) is))

-- a core is told by its words and lengths
pub core_of : (words : List ℕ) (core : Core) → core.words ≡ map (word_at words) registers → core.lengths ≡ 0
    → core ≡ as_core words
core_of words core is none =
    ap (λ held. record core { words = held }) is
    ∙ ap (λ lengths. record { words = map (word_at words) registers; lengths = lengths }) none

-- the first machine's words
pub system_first : (machines : List (List ℕ)) (first : List ℕ) (core : Core) (overrides : FieldOverrides) (kept : List ℕ)
    → 0 < length machines → first ≡ get_or machines 0 first → core ≡ as_core first → overrides ≡ no_overrides
    → IsSystemOf overrides (core ∷ []) kept → IsSystemOf no_overrides (map as_core (take 1 machines)) kept
system_first [] first core overrides kept some is made none stands = absurd (omega arith)
system_first (machine ∷ machines) first core overrides kept some is made none stands =
    let cores : core ∷ [] ≡ as_core machine ∷ [] = ap (λ c. c ∷ []) (made ∙ ap as_core is) in
    subst (λ (cs : List Core). IsSystemOf no_overrides cs kept) cores
    (subst (λ (o : FieldOverrides). IsSystemOf o (core ∷ []) kept) none stands)

-- one more machine's words
later_item : (machines : List (List ℕ)) (index : ℕ) (item : List ℕ)
    → index < length (take (length machines - 1) (drop 1 machines))
    → get_or (take (length machines - 1) (drop 1 machines)) index item ≡ get_or machines (index + 1) item
later_item [] index item within = absurd (omega arith)
later_item (machine ∷ machines) index item within = grind (arith, common_steps)

later_within : (machines : List (List ℕ)) (index : ℕ)
    → index < length (take (length machines - 1) (drop 1 machines)) → index + 1 < length machines
later_within machines index within = grind (arith, common_steps)

pub system_more : (machines : List (List ℕ)) (index : ℕ) (item : List ℕ) (core : Core) (old new : List ℕ)
    → index < length (take (length machines - 1) (drop 1 machines))
    → item ≡ get_or (take (length machines - 1) (drop 1 machines)) index item → core ≡ as_core item
    → ((overrides : FieldOverrides) (before after : List Core) → IsSystemOf overrides (before ++ after) old
    → IsSystemOf overrides (before ++ core ∷ after) new)
    → IsSystemOf no_overrides (map as_core (take (index + 1) machines)) old
    → IsSystemOf no_overrides (map as_core (take (index + 1 + 1) machines)) new
system_more machines index item core old new within is made admits stands =
    let place : ℕ = index + 1 in
    let here : item ≡ get_or machines (index + 1) item = is ∙ later_item machines index item within in
    let more : take (index + 1 + 1) machines ≡ take (index + 1) machines ++ item ∷ [] =
    take_more machines (index + 1) item (later_within machines index within)
    ∙ ap (λ m. take (index + 1) machines ++ m ∷ []) (sym here) in
    let cores : map as_core (take (index + 1 + 1) machines) ≡ map as_core (take (index + 1) machines) ++ core ∷ [] =
    ap (map as_core) more ∙ map-append as_core (take (index + 1) machines) (item ∷ [])
    ∙ ap (λ c. map as_core (take (index + 1) machines) ++ c ∷ []) (sym made) in
    subst (λ (cs : List Core). IsSystemOf no_overrides cs new) (sym cores)
    (admits no_overrides (map as_core (take (index + 1) machines)) []
    (subst (λ (cs : List Core). IsSystemOf no_overrides cs old)
    (sym (append-nil (map as_core (take (index + 1) machines)))) stands))

-- the words of all machines
pub system_all : (machines : List (List ℕ)) (index : ℕ) (kept : List ℕ)
    → length (take (length machines - 1) (drop 1 machines)) ≤ index
    → IsSystemOf no_overrides (map as_core (take (index + 1) machines)) kept → kept ≡ baseline_words machines
system_all machines index kept past stands =
    let whole : take (index + 1) machines ≡ machines = take_all (index + 1) machines (all_past machines index past) in
    from_system machines kept
    (subst (λ (ms : List (List ℕ)). IsSystemOf no_overrides (map as_core ms) kept) whole stands) where
      all_past : (machines : List (List ℕ)) (index : ℕ) → length (take (length machines - 1) (drop 1 machines)) ≤ index
          → length machines ≤ index + 1
      all_past machines index past = grind (arith, common_steps)
