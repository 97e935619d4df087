-- Loaded sections: what they hold, and what they share.
use Rattle.std.specs.Prelude.{◌+◌, ◌-◌, ◌%◌, ◌^◌, ◌&&◌, ◌≤◌, ℕ, Bool, List, count_by, max, min, nat_le, nat_lt}
use Rattle.std.specs.List.{fold, list_any}
use Rattle.armcaps_elf.specs.declared.begin.Begin.{Begin}
use Rattle.armcaps_elf.specs.declared.begin.Begin.TheVariants.{Address, Place}
use Rattle.armcaps_elf.specs.declared.section.Section.{Section}

-- where a section begins: its address, or its place in the file
abbrev pub begin_of : Begin → Section → ℕ
begin_of Address section = section.address
begin_of Place section = section.place

-- whether a section holds a number, as it begins at `begin`: at its address an address, at its place a place of the
-- file
abbrev pub holds : (Section → ℕ) → ℕ → Section → Bool
holds begin number section = nat_le (begin section) number && nat_lt number (begin section + section.size)

-- whether two sections share a number: each begins before the other's end
abbrev pub shares : (Section → ℕ) → Section → Section → Bool
shares begin one other = nat_lt (begin one) (begin other + other.size) && nat_lt (begin other) (begin one + one.size)

-- whether two of these sections share a number. None of them is empty, so each one shares with itself: two share
-- where one shares with two
abbrev pub overlap : (Section → ℕ) → List Section → Bool
overlap begin sections = list_any (λ one. nat_le 2 (count_by (shares begin one) sections)) sections

-- one section ends where another begins, or before it
abbrev pub Follows : (Section → ℕ) → Section → Section → Type 0
Follows begin one other = begin one + one.size ≤ begin other

-- the least address at which a section begins
abbrev pub least_address : List Section → ℕ
least_address sections = fold (λ least section. min least section.address) (2 ^ 64 - 1) sections

-- the greatest address at which a section ends
abbrev pub greatest_end : List Section → ℕ
greatest_end sections = fold (λ greatest section. max greatest (section.address + section.size)) 0 sections

-- the flat image's first address: the least address, rounded down to a multiple of 4096
abbrev pub base_of : List Section → ℕ
base_of sections = least_address sections - least_address sections % 4096

-- the flat image's length
abbrev pub span_of : List Section → ℕ
span_of sections = greatest_end sections - base_of sections
