-- Overrides while the words of a command line are read one after the other.
use Rattle.std.proofs.Common.{◌≡◌, ℕ, List, [], ◌∷◌, Option, None, sym, ap, ◌∙◌}
use Rattle.std.specs.Option.{option_or}
use Rattle.std.specs.List.{flat_map}
use Rattle.armcaps_logic.proofs.Options.{option_or-assoc, option_or-none}
use Rattle.armcaps_enc.specs.declared.register.SysReg.{SysReg}
use Rattle.armcaps_tables.specs.Overriding.{FieldOverrides, IsWhole, no_overrides, override_of}
use Rattle.armcaps_tables.proofs.Overriding.{by-same, none_at, none_sound}
use Rattle.armcaps_cmdline.specs.Words.{counted_words}
use Rattle.armcaps_cmdline.specs.Assignments.{Assignment, assignments_of, assignments}
use Rattle.armcaps_cmdline.specs.Overrides.{given_override, command_line_override, command_line_overrides, Assigns}
use Rattle.armcaps_cmdline.proofs.Assignments.{no_override, given_override-append}

-- what is left of a text turns these overrides into those of the whole text
pub record Remains (text rest : List ℕ) (overrides : FieldOverrides) : Type 0 where
  pub each : (register : SysReg) (index : ℕ)
      → option_or (given_override (assignments rest) register index) (override_of overrides register index)
      ≡ command_line_override text register index
  pub whole : IsWhole overrides

-- at the start all is left
pub remains_all : (text : List ℕ) (overrides : FieldOverrides) → overrides ≡ no_overrides → Remains text text overrides
unfolding command_line_override
remains_all text overrides none = rw none (record {
  each = λ register index.
      ap (option_or (given_override (assignments text) register index)) (none_at register index)
      ∙ option_or-none (given_override (assignments text) register index);
  whole = none_sound.whole;
})

-- a word less is left once it is written
pub remains_word : (text rest word after : List ℕ) (old new : FieldOverrides) → Remains text rest old
    → counted_words rest ≡ word ∷ counted_words after → Assigns (assignments_of word) old new → Remains text after new
remains_word text rest word after old new remains cut writes = record {
  each = λ register index.
      let mine : List Assignment = assignments_of word in
      let later : List Assignment = assignments after in
      let both : option_or (given_override later register index) (given_override mine register index)
      ≡ given_override (assignments rest) register index =
      sym (given_override-append mine later register index)
      ∙ ap (λ (words : List (List ℕ)). given_override (flat_map assignments_of words) register index) (sym cut) in
      ap (option_or (given_override later register index)) (writes.each register index)
      ∙ option_or-assoc (given_override later register index) (given_override mine register index)
      (override_of old register index)
      ∙ ap (λ (o : Option _). option_or o (override_of old register index)) both
      ∙ remains.each register index;
  whole = writes.whole remains.whole;
}

-- at the end nothing is left
pub remains_none : (text rest : List ℕ) (overrides : FieldOverrides) → Remains text rest overrides
    → counted_words rest ≡ []
    → (register : SysReg) (index : ℕ) → override_of overrides register index ≡ command_line_override text register index
remains_none text rest overrides remains none register index =
    let nothing : given_override (assignments rest) register index ≡ None =
    ap (λ (words : List (List ℕ)). given_override (flat_map assignments_of words) register index) none
    ∙ no_override register index in
    sym (ap (λ (o : Option _). option_or o (override_of overrides register index)) nothing)
    ∙ remains.each register index

-- so the overrides are those of the text
pub remains_whole : (text rest : List ℕ) (overrides : FieldOverrides) → Remains text rest overrides
    → counted_words rest ≡ []
    → overrides ≡ command_line_overrides text
remains_whole text rest overrides remains none =
    remains.whole ∙ by-same (override_of overrides) (command_line_override text)
    (remains_none text rest overrides remains none)
