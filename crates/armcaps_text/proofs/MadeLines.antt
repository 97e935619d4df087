-- Numbers that lines give are in their ranges: an image is no longer than the format allows, and a capability is one.
use Rattle.std.proofs.Common.{◌≡◌, ℕ, ◌≤◌, Bool, true, false, nat_le, nat_lt, cond, List, Option, Some, None, option_and_then, Result, Ok, Err, refl, arith}
use Rattle.std.specs.Option.{option_map_or, ok_or}
use Rattle.std.proofs.lemmas.Bool.Decides.{nat_tests}
use Rattle.armcaps_board.specs.declared.step_line.StepLine.TheVariants as step
use Rattle.armcaps_caps.proofs.Naming.{capability_named-known}
use Rattle.armcaps_caps.specs.Capabilities.{capability_named}
use Rattle.armcaps_text.specs.Arguments.{and_then, has_count, number_among, core_argument, word_argument, lengths_argument, number_arguments, given_arguments, conduit_argument, callback_arguments, table_arguments}
use Rattle.armcaps_text.specs.Forms.{form_of}
use Rattle.armcaps_text.specs.Meaning.{formed, meaning_of, line_of}
use Rattle.armcaps_text.specs.Numbers.{number_of}
use Rattle.armcaps_text.specs.Tokens.{tokens_of, is_passed_over}
use Rattle.armcaps_text.specs.declared.form.Form.{Form}
use Rattle.armcaps_text.specs.declared.form.Form.TheVariants as form
use Rattle.armcaps_text.specs.declared.format.Format.{Format}
use Rattle.armcaps_text.specs.declared.kind.TextKind.{TextKind}
use Rattle.armcaps_text.specs.declared.kind.TextKind.TheVariants as kind
use Rattle.armcaps_text.specs.declared.line.Line.{Line}
use Rattle.armcaps_text.specs.declared.line.Line.TheVariants as line
use Rattle.armcaps_text.specs.declared.tokens.Tokens.{Tokens}

-- an image of at most this many bytes, where the line gives one, and a capability, where it names one
abbrev pub is_ranged : ℕ → Line (List ℕ) → Bool
is_ranged most given = elim given [ line.Image length ↦ nat_le length most | line.Number number capability ↦ nat_lt capability 53 | _ ↦ true ]

-- a form whose lines give neither
other_form : {A : Type 0} (most : ℕ) (form : Form) (arguments : Result A TextKind) (make : A → Line (List ℕ)) → ((x : A) → is_ranged most (make x) ≡ true) → is_ranged most (formed form (and_then arguments (λ x. Ok (make x)))) ≡ true
other_form most form (Ok x) make h = h x
other_form most form (Err wrong) make h = refl

image_ranged : (most : ℕ) (tokens : Tokens (List ℕ)) → is_ranged most (formed form.Image (and_then (and_then (has_count 2 tokens) (λ _. ok_or (option_and_then (λ number. cond (nat_le number most) (Some number) None) (number_of tokens.second)) kind.Number)) (λ length. Ok (line.Image length)))) ≡ true
image_ranged most tokens = by_count (has_count 2 tokens)
  where
    by_size : (number : ℕ) (within : Bool) → nat_le number most ≡ within → is_ranged most (formed form.Image (and_then (ok_or (cond within (Some number) None) kind.Number) (λ length. Ok (line.Image length)))) ≡ true
    by_size number true e = e
    by_size number false e = refl

    by_number : (found : Option ℕ) → is_ranged most (formed form.Image (and_then (ok_or (option_and_then (λ number. cond (nat_le number most) (Some number) None) found) kind.Number) (λ length. Ok (line.Image length)))) ≡ true
    by_number None = refl
    by_number (Some number) = by_size number (nat_le number most) refl

    by_count : (found : Result (Unit {0}) TextKind) → is_ranged most (formed form.Image (and_then (and_then found (λ _. ok_or (option_and_then (λ number. cond (nat_le number most) (Some number) None) (number_of tokens.second)) kind.Number)) (λ length. Ok (line.Image length)))) ≡ true
    by_count (Ok _) = by_number (number_of tokens.second)
    by_count (Err wrong) = refl

number_ranged : (most : ℕ) (tokens : Tokens (List ℕ)) → is_ranged most (formed form.Number (and_then (number_arguments tokens) (λ named. Ok (line.Number named.0 named.1)))) ≡ true
number_ranged most tokens = by_count (has_count 3 tokens)
  where
    by_capability : (number : ℕ) (found : Option ℕ) → capability_named tokens.third ≡ found → is_ranged most (formed form.Number (and_then (and_then (ok_or found kind.Name) (λ capability. Ok (number, capability))) (λ (named : ℕ × ℕ). Ok (line.Number named.0 named.1)))) ≡ true
    by_capability number None h = refl
    by_capability number (Some capability) h = let few = capability_named-known tokens.third capability h in grind (arith, nat_tests)

    by_number : (found : Result ℕ TextKind) → is_ranged most (formed form.Number (and_then (and_then found (λ number. and_then (ok_or (capability_named tokens.third) kind.Name) (λ capability. Ok (number, capability)))) (λ (named : ℕ × ℕ). Ok (line.Number named.0 named.1)))) ≡ true
    by_number (Ok number) = by_capability number (capability_named tokens.third) refl
    by_number (Err wrong) = refl

    by_count : (found : Result (Unit {0}) TextKind) → is_ranged most (formed form.Number (and_then (and_then found (λ _. and_then (number_among 32767 tokens.second) (λ number. and_then (ok_or (capability_named tokens.third) kind.Name) (λ capability. Ok (number, capability))))) (λ (named : ℕ × ℕ). Ok (line.Number named.0 named.1)))) ≡ true
    by_count (Ok _) = by_number (number_among 32767 tokens.second)
    by_count (Err wrong) = refl

-- a line of any form
formed_ranged : (format : Format) (one : Form) (tokens : Tokens (List ℕ)) (text : List ℕ) → is_ranged format.image (formed one (meaning_of format one tokens text)) ≡ true
formed_ranged format form.Header tokens text = refl
formed_ranged format form.Core tokens text = other_form format.image form.Core (core_argument tokens) (λ core. line.Core core) (λ _. refl)
formed_ranged format (form.Register reg) tokens text = other_form format.image (form.Register reg) (word_argument tokens) (λ word. line.Register reg word) (λ _. refl)
formed_ranged format form.VectorLengths tokens text = other_form format.image form.VectorLengths (lengths_argument tokens) (λ lengths. line.VectorLengths lengths) (λ _. refl)
formed_ranged format form.Boot tokens text = other_form format.image form.Boot (core_argument tokens) (λ core. line.Boot core) (λ _. refl)
formed_ranged format form.CommandLine tokens text = refl
formed_ranged format form.Check tokens text = other_form format.image form.Check (core_argument tokens) (λ core. line.Step (step.Check core)) (λ _. refl)
formed_ranged format form.Local tokens text = other_form format.image form.Local (core_argument tokens) (λ core. line.Step (step.Local core)) (λ _. refl)
formed_ranged format form.Store tokens text = other_form format.image form.Store (core_argument tokens) (λ core. line.Step (step.Store core)) (λ _. refl)
formed_ranged format form.Online tokens text = other_form format.image form.Online (core_argument tokens) (λ core. line.Step (step.Online core)) (λ _. refl)
formed_ranged format form.Offline tokens text = other_form format.image form.Offline (core_argument tokens) (λ core. line.Step (step.Offline core)) (λ _. refl)
formed_ranged format form.Finalise tokens text = other_form format.image form.Finalise (has_count 1 tokens) (λ _. line.Step step.Finalise) (λ _. refl)
formed_ranged format form.Number tokens text = number_ranged format.image tokens
formed_ranged format form.Given tokens text = other_form format.image form.Given (given_arguments tokens) (λ given. line.Given given.0 given.1) (λ _. refl)
formed_ranged format form.Conduit tokens text = other_form format.image form.Conduit (conduit_argument tokens) (λ conduit. line.Conduit conduit) (λ _. refl)
formed_ranged format form.Callback tokens text = other_form format.image form.Callback (callback_arguments format tokens) (λ callback. line.Callback callback.0 callback.1) (λ _. refl)
formed_ranged format form.Table tokens text = other_form format.image form.Table (table_arguments format tokens) (λ layout. line.Table layout) (λ _. refl)
formed_ranged format form.End tokens text = other_form format.image form.End (has_count 1 tokens) (λ _. line.Image 0) (λ _. grind (arith, nat_tests))
formed_ranged format form.Image tokens text = image_ranged format.image tokens

-- any line of a text
pub line_ranged : (format : Format) (text : List ℕ) → is_ranged format.image (line_of format text) ≡ true
unfolding line_of
line_ranged format text = by_first (is_passed_over (tokens_of text))
  where
    by_form : (found : Option Form) → is_ranged format.image (option_map_or (λ one. formed one (meaning_of format one (tokens_of text) text)) found line.Unknown) ≡ true
    by_form None = refl
    by_form (Some one) = formed_ranged format one (tokens_of text) text

    by_first : (passed : Bool) → is_ranged format.image (cond passed line.Skipped (option_map_or (λ one. formed one (meaning_of format one (tokens_of text) text)) (form_of format (tokens_of text).word) line.Unknown)) ≡ true
    by_first true = refl
    by_first false = by_form (form_of format (tokens_of text).word)
