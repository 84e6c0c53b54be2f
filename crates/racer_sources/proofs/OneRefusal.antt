-- A file is refused for one reason, and is then not read.
use Rattle.std.proofs.Common.{◌≡◌, inl, inr, ℕ, suc, ◌+◌, ◌<◌, ◌≤◌, List, [], ◌∷◌, Option, None, Some, Result, Ok}
use Rattle.std.proofs.Common.{Err}
use Rattle.std.proofs.Common.{length, refl, sym, ap, subst, ◌∙◌, arith}
use Rattle.racer_base.specs.declared.ids.FileId.{FileId}
use Rattle.racer_base.specs.declared.ids.Place.{Place}
use Rattle.racer_base.specs.declared.limits.TheConstants.{MAX_FILE_BYTES, MAX_FOLDER_BYTES}
use Rattle.java_lexer.specs.declared.token.Token.{Token}
use Rattle.java_lexer.specs.declared.token.Lexed.{Lexed}
use Rattle.java_lexer.specs.declared.fault.LexFault.{LexFault}
use Rattle.java_lexer.specs.declared.fault.LexFault.TheVariants as lexical
use Rattle.java_tree.specs.declared.unit.Unit as unit
use Rattle.java_tree.specs.declared.unit.ParseFault.{ParseFault}
use Rattle.java_tree.specs.declared.unit.ParseFault.TheVariants as parse
use Rattle.java_parser_grammar.specs.Cuts.{joined}
use Rattle.java_parser_grammar.specs.Tokens.{first_place}
use Rattle.java_parser_grammar.specs.Pieces.{Item, items_of}
use Rattle.java_parser_grammar.specs.Units.{IsUnit, IsFault}
use Rattle.java_parser_grammar.proofs.Misfits.{not_both, one_misfit}
use Rattle.racer_sources.specs.declared.refusal.Refusal.{Refusal}
use Rattle.racer_sources.specs.declared.refusal.Refusal.TheVariants.{TooManyFiles, TooLong, TooManyBytes, NotUtf8}
use Rattle.racer_sources.specs.declared.refusal.Refusal.TheVariants.{BadCharacter, Unclosed, BadLiteral, Unbalanced}
use Rattle.racer_sources.specs.declared.refusal.Refusal.TheVariants.{TooDeep, NotAUnit, DuplicateClass, DuplicateField}
use Rattle.racer_sources.specs.declared.refusal.Refusal.TheVariants.{TooManyClasses, TooManyMethods, TooManyCalls}
use Rattle.racer_sources.specs.Sources.{IsShort, IsRead, HasNoTokens, IsNoUnit, IsRefusedFile, IsOneRefused}
use Rattle.racer_sources.specs.Sources.{AreReadFrom}
use Rattle.racer_sources.proofs.OneReading.{same_lexed}

-- ---- faults as refusals

abbrev lexical_refusal : FileId → LexFault → Refusal
lexical_refusal file (lexical.NotUtf8 n) = NotUtf8 file n
lexical_refusal file (lexical.BadCharacter p) = BadCharacter p
lexical_refusal file (lexical.Unclosed p) = Unclosed p
lexical_refusal file (lexical.BadLiteral p) = BadLiteral p
lexical_refusal file lexical.Memory = TooLong file

data UnitFault : Type 0 where
  unbalanced_at : Place → UnitFault
  deep_at : Place → UnitFault
  unfit_at : Place → UnitFault

abbrev fault_of : UnitFault → ParseFault
fault_of (unbalanced_at p) = parse.Unbalanced p
fault_of (deep_at p) = parse.TooDeep p
fault_of (unfit_at p) = parse.NotAUnit p

abbrev unit_refusal : UnitFault → Refusal
unit_refusal (unbalanced_at p) = Unbalanced p
unit_refusal (deep_at p) = TooDeep p
unit_refusal (unfit_at p) = NotAUnit p

-- ---- one file

module _ (file : FileId) (sum : ℕ) (bytes : List ℕ) where
  data Kind (r : Refusal) : Type 0 where
    long : r ≡ TooLong file → MAX_FILE_BYTES < length bytes → Kind r
    many : r ≡ TooManyBytes sum → length bytes ≤ MAX_FILE_BYTES → MAX_FOLDER_BYTES < sum → Kind r
    untokened : (f : LexFault) → r ≡ lexical_refusal file f → HasNoTokens file sum bytes f → Kind r
    unread : (f : UnitFault) → r ≡ unit_refusal f → IsNoUnit file sum bytes (fault_of f) → Kind r

  kind : (r : Refusal) → IsRefusedFile file sum bytes r → Kind r
  kind (TooLong f) h = long (ap TooLong h.0) h.1
  kind (TooManyBytes n) h = many (ap TooManyBytes h.0) h.1 h.2
  kind (NotUtf8 f n) h = untokened (lexical.NotUtf8 n) (ap (λ g. NotUtf8 g n) h.0) h.1
  kind (BadCharacter p) h = untokened (lexical.BadCharacter p) refl h
  kind (Unclosed p) h = untokened (lexical.Unclosed p) refl h
  kind (BadLiteral p) h = untokened (lexical.BadLiteral p) refl h
  kind (Unbalanced p) h = unread (unbalanced_at p) refl h
  kind (TooDeep p) h = unread (deep_at p) refl h
  kind (NotAUnit p) h = unread (unfit_at p) refl h
  kind (TooManyFiles n) h = absurd h
  kind (DuplicateClass p q) h = absurd h
  kind (DuplicateField p q) h = absurd h
  kind (TooManyClasses n) h = absurd h
  kind (TooManyMethods n) h = absurd h
  kind (TooManyCalls n) h = absurd h

  too_long : IsShort sum bytes → MAX_FILE_BYTES < length bytes → ⊥
  too_long short h = let s = short.file in omega arith

  too_many : IsShort sum bytes → MAX_FOLDER_BYTES < sum → ⊥
  too_many short h = let s = short.together in omega arith

  both_sizes : MAX_FILE_BYTES < length bytes → length bytes ≤ MAX_FILE_BYTES → ⊥
  both_sizes h k = omega arith

ok_not_err : (a : Result Lexed LexFault) (l : Lexed) (f : LexFault) → a ≡ Ok l → a ≡ Err f → ⊥
ok_not_err a l f e g = let bad : ◌≡◌ {A = Result Lexed LexFault} (Ok l) (Err f) = sym e ∙ g in cc

same_lex_fault : (a : Result Lexed LexFault) (f g : LexFault) → a ≡ Err f → a ≡ Err g → f ≡ g
same_lex_fault a f g d e = let both : ◌≡◌ {A = Result Lexed LexFault} (Err f) (Err g) = sym d ∙ e in cc

same_place : (o : Option Place) (p q : Place) → o ≡ Some p → o ≡ Some q → p ≡ q
same_place o p q d e = let both : ◌≡◌ {A = Option Place} (Some p) (Some q) = sym d ∙ e in cc

no_place : (o : Option Place) (p : Place) → o ≡ None → o ≡ Some p → ⊥
no_place o p d e = let bad : ◌≡◌ {A = Option Place} None (Some p) = sym d ∙ e in cc

module _ (ts : List Token) (end : Place) where
  one_fault : (f g : UnitFault) → IsFault ts end (fault_of f) → IsFault ts end (fault_of g) →
      unit_refusal f ≡ unit_refusal g
  one_fault (unbalanced_at p) (unbalanced_at q) h k = ap Unbalanced (same_place _ p q h k)
  one_fault (unbalanced_at p) (deep_at q) h k = absurd (no_place _ p k.0 h)
  one_fault (unbalanced_at p) (unfit_at q) h k = absurd (no_place _ p k.0 h)
  one_fault (deep_at p) (unbalanced_at q) h k = absurd (no_place _ q h.0 k)
  one_fault (deep_at p) (deep_at q) h k = ap TooDeep (same_place _ p q h.1 k.1)
  one_fault (deep_at p) (unfit_at q) h k = absurd (no_place _ p k.1 h.1)
  one_fault (unfit_at p) (unbalanced_at q) h k = absurd (no_place _ q h.0 k)
  one_fault (unfit_at p) (deep_at q) h k = absurd (no_place _ q h.1 k.1)
  one_fault (unfit_at p) (unfit_at q) h k =
      ap NotAUnit (sym h.4 ∙ ap (λ (r : List Item). first_place end (joined r))
      (one_misfit (items_of ts) h.2 k.2 h.3 k.3) ∙ k.4)

  not_unit : (f : UnitFault) (u : unit.Unit) → IsFault ts end (fault_of f) → IsUnit ts u → ⊥
  not_unit (unbalanced_at p) u h is = no_place _ p is.balanced h
  not_unit (deep_at p) u h is = no_place _ p is.flat h.1
  not_unit (unfit_at p) u h is = not_both (items_of ts) h.2 is.all is.fit h.3

module _ (file : FileId) (sum : ℕ) (bytes : List ℕ) where
  by_kinds : (r q : Refusal) → Kind file sum bytes r → Kind file sum bytes q → r ≡ q
  by_kinds r q (long e h) (long f k) = e ∙ sym f
  by_kinds r q (long e h) (many f k l) = absurd (both_sizes file sum bytes h k)
  by_kinds r q (long e h) (untokened g f k) = absurd (too_long file sum bytes k.short h)
  by_kinds r q (long e h) (unread g f k) = absurd (too_long file sum bytes k.short h)
  by_kinds r q (many e h i) (long f k) = absurd (both_sizes file sum bytes k h)
  by_kinds r q (many e h i) (many f k l) = e ∙ sym f
  by_kinds r q (many e h i) (untokened g f k) = absurd (too_many file sum bytes k.short i)
  by_kinds r q (many e h i) (unread g f k) = absurd (too_many file sum bytes k.short i)
  by_kinds r q (untokened g e h) (long f k) = absurd (too_long file sum bytes h.short k)
  by_kinds r q (untokened g e h) (many f k l) = absurd (too_many file sum bytes h.short l)
  by_kinds r q (untokened g e h) (untokened i f k) =
      e ∙ ap (lexical_refusal file) (same_lex_fault _ g i h.tokens k.tokens) ∙ sym f
  by_kinds r q (untokened g e h) (unread i f k) = absurd (ok_not_err _ k.lexed g k.tokens h.tokens)
  by_kinds r q (unread g e h) (long f k) = absurd (too_long file sum bytes h.short k)
  by_kinds r q (unread g e h) (many f k l) = absurd (too_many file sum bytes h.short l)
  by_kinds r q (unread g e h) (untokened i f k) = absurd (ok_not_err _ h.lexed i h.tokens k.tokens)
  by_kinds r q (unread g e h) (unread i f k) =
      let there = subst (λ (l : Lexed). IsFault l.tokens l.end (fault_of i))
      (same_lexed _ k.lexed h.lexed k.tokens h.tokens) k.unit in
      e ∙ one_fault h.lexed.tokens h.lexed.end g i h.unit there ∙ sym f

  not_read : (r : Refusal) (u : unit.Unit) → Kind file sum bytes r → IsRead file sum bytes u → ⊥
  not_read r u (long e h) is = too_long file sum bytes is.short h
  not_read r u (many e h i) is = too_many file sum bytes is.short i
  not_read r u (untokened g e h) is = ok_not_err _ is.lexed g is.tokens h.tokens
  not_read r u (unread g e h) is =
      not_unit h.lexed.tokens h.lexed.end g u h.unit
      (subst (λ (l : Lexed). IsUnit l.tokens u) (same_lexed _ is.lexed h.lexed is.tokens h.tokens) is.unit)

-- ---- files

-- the kind of a refusal of the n-th file
kind_at : (n sum : ℕ) (bytes : List ℕ) (r : Refusal) → IsRefusedFile (record { 0 = n }) (sum + length bytes) bytes r
    → Kind (record { 0 = n }) (sum + length bytes) bytes r
kind_at n sum bytes r h = kind (record { 0 = n }) (sum + length bytes) bytes r h

pub one_refusal : (n sum : ℕ) (files : List (List ℕ)) (r q : Refusal) → IsOneRefused n sum files r
    → IsOneRefused n sum files q → r ≡ q
one_refusal n sum [] r q h k = absurd h
one_refusal n sum (bytes ∷ files) r q (inl h) (inl k) =
    by_kinds (record { 0 = n }) (sum + length bytes) bytes r q (kind_at n sum bytes r h) (kind_at n sum bytes q k)
one_refusal n sum (bytes ∷ files) r q (inl h) (inr k) =
    absurd (not_read (record { 0 = n }) (sum + length bytes) bytes r k.0 (kind_at n sum bytes r h) k.1)
one_refusal n sum (bytes ∷ files) r q (inr h) (inl k) =
    absurd (not_read (record { 0 = n }) (sum + length bytes) bytes q h.0 (kind_at n sum bytes q k) h.1)
one_refusal n sum (bytes ∷ files) r q (inr h) (inr k) = one_refusal (suc n) (sum + length bytes) files r q h.2 k.2

pub refused_or_read : (n sum : ℕ) (files : List (List ℕ)) (r : Refusal) (us : List unit.Unit)
    → IsOneRefused n sum files r → AreReadFrom n sum files us → ⊥
refused_or_read n sum [] r us h read = h
refused_or_read n sum (bytes ∷ files) r [] h read = read
refused_or_read n sum (bytes ∷ files) r (u ∷ us) (inl h) read =
    not_read (record { 0 = n }) (sum + length bytes) bytes r u (kind_at n sum bytes r h) read.0
refused_or_read n sum (bytes ∷ files) r (u ∷ us) (inr h) read =
    refused_or_read (suc n) (sum + length bytes) files r us h.2 read.1
