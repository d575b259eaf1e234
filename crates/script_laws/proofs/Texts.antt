-- A command that is written out is read back.
use Rattle.std.proofs.Common.{◌≡◌, ℕ, zero, suc, ◌+◌, ◌*◌, ◌/◌, ◌%◌, ◌^◌, ◌<◌, ◌≤◌, List, [], ◌∷◌, ◌++◌, length, Some, Ok, decimal, refl, ap, ◌∙◌, append_assoc, pow-suc, arith, rules}
use Rattle.std.proofs.lemmas.Bool.Decides.{nat_tests}
use Rattle.std.specs.List.{AllByRecursion}
use Rattle.std.proofs.ByRecursion.{All-append, All-push, All-weaker}
use Rattle.std.proofs.lemmas.List.{length-append, append-nil}
use Rattle.std.proofs.lemmas.Fmt.{decimal_by_steps, decimal_nonempty, length-decimal-le, first_decimal}
use Rattle.text.specs.Lines.{up_to, past}
use Rattle.text.specs.Fields.{commas, digit_of, number_from, hex_field, count_field}
use Rattle.text.proofs.Cuts.{up_to_more, past_more, comma_here, comma_more}
use Rattle.text.specs.Commands.{command_of}
use Rattle.text.specs.declared.command.Command.{Command}
use Rattle.text.specs.declared.command.Command.TheVariants.{Read, Write, Tick}
use Rattle.script.specs.Output.{hex_digit_of, hex_bytes}
use Rattle.script_laws.specs.Written.{Line, Fits, text_of}
use Rattle.script_laws.specs.Laws.{CommandsReadBack}

-- digits and letters: neither a comma nor byte 10 is among them
abbrev pub Plain : List ℕ → Type 0
Plain f = AllByRecursion (λ b. 48 ≤ b) f

-- the first of several fields
module _ (r : List ℕ) where
  field_here : (f : List ℕ) → Plain f → up_to 44 (f ++ (44 ∷ r)) ≡ f
  field_here [] h = refl
  field_here (b ∷ f) h = up_to_more 44 b (f ++ (44 ∷ r)) (λ e. omega (arith, h.0)) ∙ ap (λ y. b ∷ y) (field_here f h.1)

  next_field : (f : List ℕ) → Plain f → past 44 (f ++ (44 ∷ r)) ≡ r
  next_field [] h = refl
  next_field (b ∷ f) h = past_more 44 b (f ++ (44 ∷ r)) (λ e. omega (arith, h.0)) ∙ next_field f h.1

  comma_then : (f : List ℕ) → Plain f → commas (f ++ (44 ∷ r)) ≡ suc (commas r)
  comma_then [] h = comma_here r
  comma_then (b ∷ f) h = comma_more b (f ++ (44 ∷ r)) (λ e. omega (arith, h.0)) ∙ comma_then f h.1

-- the last field
field_last : (f : List ℕ) → Plain f → up_to 44 f ≡ f
field_last [] h = refl
field_last (b ∷ f) h = up_to_more 44 b f (λ e. omega (arith, h.0)) ∙ ap (λ y. b ∷ y) (field_last f h.1)

comma_none : (f : List ℕ) → Plain f → commas f ≡ 0
comma_none [] h = refl
comma_none (b ∷ f) h = comma_more b f (λ e. omega (arith, h.0)) ∙ comma_none f h.1

-- the kind, then the other fields
kind_commas : (kind : ℕ) (f : List ℕ) → (kind ≡ 44 → ⊥) → commas (kind ∷ (44 ∷ f)) ≡ suc (commas f)
kind_commas kind f h = comma_more kind (44 ∷ f) h ∙ comma_here f

read_text : {o : ℕ} (f : List ℕ) → Plain f → hex_field 3 f ≡ Some o → command_of (82 ∷ (44 ∷ f)) ≡ Ok (Read o)
read_text f h a = rw (kind_commas 82 f (λ e. omega arith), comma_none f h, field_last f h, a) refl

write_text : {o v : ℕ} (f g : List ℕ) → Plain f → Plain g → hex_field 3 f ≡ Some o → hex_field 8 g ≡ Some v
    → command_of (87 ∷ (44 ∷ (f ++ (44 ∷ g)))) ≡ Ok (Write o v)
write_text f g hf hg a b =
    rw (kind_commas 87 (f ++ (44 ∷ g)) (λ e. omega arith), comma_then g f hf, comma_none g hg, next_field g f hf, field_here g f hf, field_last g hg, a, b) refl

tick_text : {m b i : ℕ} (n f g : List ℕ) → Plain n → Plain f → Plain g → count_field n ≡ Some m → hex_field 6 f ≡ Some b → hex_field 2 g ≡ Some i
    → command_of (84 ∷ (44 ∷ (n ++ (44 ∷ (f ++ (44 ∷ g)))))) ≡ Ok (Tick m b i)
tick_text n f g hn hf hg a b c =
    rw (
      kind_commas 84 (n ++ (44 ∷ (f ++ (44 ∷ g)))) (λ e. omega arith),
      comma_then (f ++ (44 ∷ g)) n hn,
      comma_then g f hf,
      comma_none g hg,
      next_field (f ++ (44 ∷ g)) n hn,
      next_field g f hf,
      field_here (f ++ (44 ∷ g)) n hn,
      field_here g f hf,
      field_last g hg,
      a,
      b,
      c,
    ) refl

-- a digit is read back
digit_back : (d : ℕ) → d < 16 → digit_of (hex_digit_of d) ≡ Some d
digit_back d h = grind (arith, nat_tests)

one_digit : (base v b d : ℕ) (r : List ℕ) → digit_of b ≡ Some d → d < base
    → number_from base v (b ∷ r) ≡ number_from base (v * base + d) r
one_digit base v b d r q h = grind (arith, nat_tests)

-- hexadecimal digits are read back
hex_number : (w v : ℕ) (r : List ℕ) → v < 16 ^ w → number_from 16 0 (hex_bytes w v ++ r) ≡ number_from 16 v r
hex_number zero v r h = grind arith
hex_number (suc w) v r h =
    let digit = one_digit 16 (v / 16) (hex_digit_of (v % 16)) (v % 16) r (digit_back (v % 16) (omega arith)) (omega arith) in
    grind (arith, append_assoc (hex_bytes w (v / 16)) (hex_digit_of (v % 16) ∷ []) r, hex_number w (v / 16) (hex_digit_of (v % 16) ∷ r) (omega (arith, pow-suc 16 w)), digit)

digit_plain : (d : ℕ) → 48 ≤ hex_digit_of d
digit_plain d = grind (arith, nat_tests)

pub hex_plain : (w v : ℕ) → Plain (hex_bytes w v)
hex_plain zero v = tt
hex_plain (suc w) v = All-push (λ b. 48 ≤ b) (hex_bytes w (v / 16)) (hex_digit_of (v % 16)) (hex_plain w (v / 16)) (digit_plain (v % 16))

hex_length : (w v : ℕ) → length (hex_bytes w v) ≡ w
hex_length zero v = refl
hex_length (suc w) v =
    omega (arith, length-append (hex_bytes w (v / 16)) (hex_digit_of (v % 16) ∷ []), hex_length w (v / 16))

hex_back : (w v : ℕ) → v < 16 ^ w → hex_field w (hex_bytes w v) ≡ Some v
hex_back w v h = grind (arith, nat_tests, hex_length, hex_number w v [], append-nil {A = ℕ})

-- a count is read back
abbrev Numeral : ℕ → List ℕ → Type 0
Numeral n ds = Plain ds × ((r : List ℕ) → number_from 10 0 (ds ++ r) ≡ number_from 10 n r)

numeral : (n : ℕ) → n < 2 ^ 64 → Numeral n (decimal n)
numeral =
    decimal_by_steps Numeral
    (λ n h. ((omega arith, tt), λ r. grind (arith, nat_tests)))
    (λ n ds h p. (
      All-push (λ b. 48 ≤ b) ds (48 + n % 10) p.0 (omega arith),
      λ r. grind (arith, nat_tests, append_assoc ds ((48 + n % 10) ∷ []) r, p.1 ((48 + n % 10) ∷ r)),
    ))

count_back : (n : ℕ) → 1 ≤ n → n ≤ 100000 → count_field (decimal n) ≡ Some n
count_back n low high =
    let small : n < 2 ^ 64 = omega arith in
    grind (arith, nat_tests, decimal_nonempty n small, length-decimal-le 6 n (omega arith) (omega arith) small, first_decimal n (omega arith) small, (numeral n small).1 [], append-nil {A = ℕ})

-- nor does the line of a command have a byte 10
plain_line : (f : List ℕ) → Plain f → Line f
plain_line f h = All-weaker (λ b. 48 ≤ b) (λ b. b ≡ 10 → ⊥) (λ b p e. omega arith) f h

fields_line : (f g : List ℕ) → Plain f → Line g → Line (f ++ (44 ∷ g))
fields_line f g hf hg = All-append (λ b. b ≡ 10 → ⊥) f (44 ∷ g) (plain_line f hf) ((λ e. omega arith), hg)

kind_line : (kind : ℕ) (f : List ℕ) → (kind ≡ 10 → ⊥) → Line f → Line (kind ∷ (44 ∷ f))
kind_line kind f hk hf = (hk, ((λ e. omega arith), hf))

pub text_line : (c : Command) → Fits c → Line (text_of c)
text_line (Read o) h = search (rules, kind_line, plain_line, hex_plain)
text_line (Write o v) h = search (rules, kind_line, fields_line, plain_line, hex_plain)
text_line (Tick n b i) h =
    let p = (numeral n (omega (arith, h.1))).0 in
    search (rules, kind_line, fields_line, plain_line, hex_plain, p) depth 12

pub command_back : CommandsReadBack
command_back (Read o) h = read_text (hex_bytes 3 o) (hex_plain 3 o) (hex_back 3 o h)
command_back (Write o v) h =
    write_text (hex_bytes 3 o) (hex_bytes 8 v) (hex_plain 3 o) (hex_plain 8 v) (hex_back 3 o h.0) (hex_back 8 v h.1)
command_back (Tick n b i) h =
    tick_text (decimal n) (hex_bytes 6 b) (hex_bytes 2 i) (numeral n (omega (arith, h.1))).0 (hex_plain 6 b) (hex_plain 2 i)
    (count_back n h.0 h.1) (hex_back 6 b h.2) (hex_back 2 i h.3)
