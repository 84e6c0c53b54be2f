-- Types before a name are type arguments none of which is a wildcard.
use Rattle.std.proofs.Common.{◌≡◌, ℕ, zero, suc, max, Bool, true, false, cond, not, ◌&&◌, List, [], ◌∷◌, length, map}
use Rattle.std.proofs.Common.{codes, bytes_eq, Option, Some, None, refl, sym, ap, ◌∙◌}
use Rattle.java_lexer.specs.declared.token.TokenKind.{TokenKind}
use Rattle.java_lexer.specs.declared.token.TokenKind.TheVariants as kind
use Rattle.java_tree.specs.declared.types.TypeTree.{TypeTree}
use Rattle.java_tree.specs.declared.words.Spelled.{Spelled}
use Rattle.java_tree.specs.Brackets.{is_sign_kind, is_keyword_kind, is_name_kind, is_sign}
use Rattle.java_tree.specs.Formed.{are_exact, are_types, is_plain_word}
use Rattle.java_tree.specs.Nesting.{ty_nesting, arguments_nesting, maybe_angled_nesting, most_over}
use Rattle.java_tree.specs.Trees.{Ty, Arguments, Angled, argument_then, Argument, Exact, Any, Extends, Super}
use Rattle.java_tree.specs.Trees.{pack_arguments}
use Rattle.java_tree.specs.View.{ty_of, types_of}
use Rattle.java_parser_grammar.specs.Taking.{◌>>=◌, match_option, after_sign, after_keyword, after_name, after_angle}
use Rattle.java_parser_grammar.specs.Taking.{commas}
use Rattle.java_parser_grammar.specs.TypeReading.{after_plain, argument_with, wildcard_with, angled_with, base_with}
use Rattle.java_parser_grammar.specs.TypeReading.{part_with, ty_at, types_at, behind_each, between_each}
use Rattle.java_parser_types.specs.ExactTypes.{exact_types_at}

-- ---- no type begins with a `?`

sign_is_no_word : {A : Type 0} (k : TokenKind) (g : Bool) (text other : List ℕ) (b : Bool) (found : A)
    → (is_sign_kind k && (not g && bytes_eq text other)) ≡ true
    → cond (is_keyword_kind k && b) (Some found) None ≡ None
sign_is_no_word kind.Sign g text other b found h = refl
sign_is_no_word _ g text other b found h = absurd cc

sign_is_no_name : {A : Type 0} (k : TokenKind) (g : Bool) (text other : List ℕ) (b : Bool) (found : A)
    → (is_sign_kind k && (not g && bytes_eq text other)) ≡ true
    → cond (is_name_kind k && b) (Some found) None ≡ None
sign_is_no_name kind.Sign g text other b found h = refl
sign_is_no_name _ g text other b found h = absurd cc

stands : (b : Bool) (ts r : List Spelled) → cond b (Some ts) None ≡ Some r → b ≡ true
stands true ts r h = refl
stands false ts r h = absurd cc

abbrev Lacks : (List Spelled → Option (Ty × List Spelled)) → Type 0
Lacks read = (ts r : List Spelled) → after_sign (codes "?") ts ≡ Some r → read ts ≡ None

lacks_types : (n : ℕ) → Lacks (ty_at n)
unfolding ty_at base_with part_with
lacks_types zero ts r h = refl
lacks_types (suc n) [] r h = absurd cc
lacks_types (suc n) (t ∷ ts) r h =
    let s : is_sign (codes "?") t ≡ true = stands (is_sign (codes "?") t) ts r h in
    let plain : after_plain (t ∷ ts) ≡ None =
    sign_is_no_word t.kind t.glued t.text (codes "?") (not t.glued && is_plain_word t.text) (t.text, ts) s in
    let name : after_name (t ∷ ts) ≡ None =
    sign_is_no_name t.kind t.glued t.text (codes "?") (not t.glued) (t.text, ts) s in
    rw (plain, name) refl

-- ---- lists of type arguments, and those that are types alone

abbrev Given : Type 0
Given = List Argument × List Spelled

abbrev exactly : Given → Option Given
exactly x = cond (are_exact (pack_arguments x.0)) (Some x) None

abbrev as_given : List Ty × List Spelled → Option Given
as_given x = Some (map Exact x.0, x.1)

abbrev before : Argument → Given → Option Given
before a x = Some (a ∷ x.0, x.1)

abbrev exact : Ty × List Spelled → Option (Argument × List Spelled)
exact t = Some (Exact t.0, t.1)

abbrev extending : Ty × List Spelled → Option (Argument × List Spelled)
extending t = Some (Extends t.0, t.1)

abbrev supering : Ty × List Spelled → Option (Argument × List Spelled)
supering t = Some (Super t.0, t.1)

abbrev any_at : List Spelled → Option (Argument × List Spelled)
any_at w = Some (Any, w)

abbrev type_before : Ty → List Ty × List Spelled → Option (List Ty × List Spelled)
type_before t x = Some (t ∷ x.0, x.1)

abbrev exact_none : List Spelled → Option Given
exact_none ts = Some ([], ts)

abbrev types_none : List Spelled → Option (List Ty × List Spelled)
types_none ts = Some ([], ts)

exact_before : (t : Ty) (p : Option Given) → (p >>= before (Exact t)) >>= exactly ≡ (p >>= exactly) >>= before (Exact t)
exact_before t None = refl
exact_before t (Some x) = by_test (are_exact (pack_arguments x.0)) where
  by_test : (b : Bool) → cond b (Some (Exact t ∷ x.0, x.1)) None ≡ cond b (Some x) None >>= before (Exact t)
  by_test true = refl
  by_test false = refl

types_before : (t : Ty) (p : Option (List Ty × List Spelled)) → (p >>= type_before t) >>= as_given
    ≡ (p >>= as_given) >>= before (Exact t)
types_before t None = refl
types_before t (Some x) = refl

any_before : (p : Option Given) → (p >>= before Any) >>= exactly ≡ None
any_before None = refl
any_before (Some x) = refl

extends_before : (t : Ty) (p : Option Given) → (p >>= before (Extends t)) >>= exactly ≡ None
extends_before t None = refl
extends_before t (Some x) = refl

super_before : (t : Ty) (p : Option Given) → (p >>= before (Super t)) >>= exactly ≡ None
super_before t None = refl
super_before t (Some x) = refl

module _ (read : List Spelled → Option (Ty × List Spelled)) (lacks : Lacks read) where
  -- the first and others are types alone where the others are
  module _ (others : List Spelled → Option Given) (types : List Spelled → Option (List Ty × List Spelled))
      (same : (ts : List Spelled) → others ts >>= exactly ≡ types ts >>= as_given) where
    of_types : (p : Option (Ty × List Spelled)) → ((p >>= exact) >>= λ f. others f.1 >>= before
        f.0) >>= exactly ≡ (p >>= λ f. types f.1 >>= type_before f.0) >>= as_given
    of_types None = refl
    of_types (Some t) =
        exact_before t.0 (others t.1) ∙ ap (λ (o : Option Given). o >>= before (Exact t.0)) (same t.1)
        ∙ sym (types_before t.0 (types t.1))

    of_extends : (p : Option (Ty × List Spelled)) → ((p >>= extending) >>= λ f. others f.1 >>= before
        f.0) >>= exactly ≡ None
    of_extends None = refl
    of_extends (Some t) = extends_before t.0 (others t.1)

    of_super : (p : Option (Ty × List Spelled)) → ((p >>= supering) >>= λ f. others f.1 >>= before
        f.0) >>= exactly ≡ None
    of_super None = refl
    of_super (Some t) = super_before t.0 (others t.1)

    of_wildcard : (w : List Spelled) (e s : Option (List Spelled)) → (match_option e (match_option s (any_at w)
        (λ r. read r >>= supering)) (λ r. read r >>= extending) >>= λ f. others
        f.1 >>= before f.0) >>= exactly ≡ None
    of_wildcard w (Some r) s = of_extends (read r)
    of_wildcard w None (Some r) = of_super (read r)
    of_wildcard w None None = any_before (others w)

    first_exact : (ts : List Spelled) → (argument_with read ts >>= λ f. others f.1 >>= before f.0) >>= exactly
        ≡ (read ts >>= λ f. types f.1 >>= type_before f.0) >>= as_given
    first_exact ts = by_sign (after_sign (codes "?") ts) refl where
      by_sign : (o : Option (List Spelled)) → after_sign (codes "?") ts ≡ o → (match_option o (read ts >>= exact)
          (λ r. wildcard_with read r) >>= λ f. others f.1 >>= before f.0) >>= exactly
          ≡ (read ts >>= λ f. types f.1 >>= type_before f.0) >>= as_given
      by_sign None e = of_types (read ts)
      by_sign (Some w) e =
          let none : read ts ≡ None = lacks ts w e in
          rw none (of_wildcard w (after_keyword (codes "extends") w) (after_keyword (codes "super") w))

  commas_exact : (m : ℕ) (ts : List Spelled) → commas (argument_with read) m ts >>= exactly
      ≡ behind_each (codes ",") read m ts >>= as_given
  unfolding commas behind_each
  commas_exact zero ts = refl
  commas_exact (suc m) ts = by_comma (λ us. commas_exact m us) (after_sign (codes ",") ts) where
    by_comma : ((us : List Spelled) → commas (argument_with read) m us >>= exactly ≡ behind_each (codes ",") read m us
        >>= as_given) → (o : Option (List Spelled)) → match_option o (exact_none ts)
        (λ r. argument_with read r >>= λ f. commas (argument_with read) m f.1 >>= before f.0) >>= exactly
        ≡ match_option o (types_none ts)
        (λ r. read r >>= λ f. behind_each (codes ",") read m f.1 >>= type_before f.0) >>= as_given
    by_comma same None = refl
    by_comma same (Some r) =
        first_exact (λ us. commas (argument_with read) m us) (λ us. behind_each (codes ",") read m us) same r

  between_exact : (ts : List Spelled) → (argument_with read ts >>= λ f. commas (argument_with read) (length f.1) f.1
      >>= before f.0) >>= exactly ≡ between_each (codes ",") read ts >>= as_given
  between_exact ts =
      first_exact (λ us. commas (argument_with read) (length us) us) (λ us. behind_each (codes ",") read (length us) us)
      (λ us. commas_exact (length us) us) ts

-- ---- their brackets

abbrev angled : Given → Option (Arguments × List Spelled)
angled x = after_angle x.1 >>= λ angle. Some (Angled (pack_arguments x.0) angle.0, angle.1)

abbrev exact_angled : Given → Option (Option Arguments × List Spelled)
exact_angled x = after_angle x.1 >>= λ angle. Some (Some (Angled (pack_arguments x.0) angle.0), angle.1)

abbrev tested : Arguments × List Spelled → Option (Option Arguments × List Spelled)
tested a = cond (are_types a.0) (Some (Some a.0, a.1)) None

grouped : (others : List Spelled → Option Given) (p : Option (Argument × List Spelled)) → (p >>= λ f. others f.1
    >>= λ x. after_angle x.1 >>= λ angle. Some (Angled (argument_then f.0 (pack_arguments x.0)) angle.0, angle.1))
    ≡ (p >>= λ f. others f.1 >>= before f.0) >>= angled
grouped others None = refl
grouped others (Some f) = by_others (others f.1) where
  by_others : (q : Option Given) → (q >>= λ x. after_angle x.1 >>= λ angle. Some (
    Angled (argument_then f.0
        (pack_arguments x.0)) angle.0,
    angle.1,
  )) ≡ (q >>= before f.0) >>= angled
  by_others None = refl
  by_others (Some x) = refl

abbrev no_types : Option (Option Arguments × List Spelled)
no_types = None

tested_exactly : (p : Option Given) → (p >>= angled) >>= tested ≡ (p >>= exactly) >>= exact_angled
tested_exactly None = refl
tested_exactly (Some x) = by_angle (after_angle x.1) ∙ by_test (are_exact (pack_arguments x.0)) where
  nothing : (b : Bool) → no_types ≡ cond b no_types no_types
  nothing true = refl
  nothing false = refl

  by_angle : (o : Option (Bool × List Spelled)) → (o >>= λ angle. Some (Angled (pack_arguments x.0) angle.0, angle.1))
      >>= tested ≡ cond (are_exact (pack_arguments x.0)) (o >>= λ angle. Some (
        Some (Angled (pack_arguments x.0) angle.0),
        angle.1,
      )) None
  by_angle None = nothing (are_exact (pack_arguments x.0))
  by_angle (Some angle) = refl

  by_test : (b : Bool) → cond b (exact_angled x) None ≡ cond b (Some x) None >>= exact_angled
  by_test true = refl
  by_test false = refl

given_angled : (p : Option (List Ty × List Spelled)) → (p >>= as_given) >>= exact_angled ≡ (p >>= λ types. after_angle
    types.1 >>= λ angle. Some (Some (Angled (pack_arguments (map Exact types.0)) angle.0), angle.1))
given_angled None = refl
given_angled (Some x) = refl

pub types_are_exact : (n : ℕ) (ts : List Spelled) → types_at n ts ≡ match_option (after_sign (codes "<") ts) (Some (
  None,
  ts,
)) (λ r. exact_types_at n r)
unfolding types_at angled_with
types_are_exact n ts = by_sign (after_sign (codes "<") ts) where
  by_sign : (o : Option (List Spelled)) → match_option o (Some (None, ts)) (λ r. angled_with (ty_at n) r >>= tested)
      ≡ match_option o (Some (None, ts)) (λ r. exact_types_at n r)
  by_sign None = refl
  by_sign (Some r) =
      ap (λ (o : Option (Arguments × List Spelled)). o >>= tested) (grouped (λ us. commas (argument_with (ty_at n))
      (length us) us) (argument_with (ty_at n) r))
      ∙ tested_exactly (argument_with (ty_at n) r >>= λ f. commas (argument_with (ty_at n)) (length f.1) f.1 >>= before
      f.0)
      ∙ ap (λ (o : Option Given). o >>= exact_angled) (between_exact (ty_at n) (lacks_types n) r)
      ∙ given_angled (between_each (codes ",") (ty_at n) r)

-- ---- the types of the code

exact_each : (ts : List TypeTree) → map (λ t. Exact (ty_of t)) ts ≡ map Exact (map ty_of ts)
exact_each [] = refl
exact_each (t ∷ ts) = ap (λ (xs : List Argument). Exact (ty_of t) ∷ xs) (exact_each ts)

-- the types that were read
abbrev read_of : Option (List Ty × List Spelled) → List Ty
read_of None = []
read_of (Some x) = x.0

some_types : (p : Option (Ty × List Spelled)) (others : List Spelled → Option (List Ty × List Spelled)) (rest : List
    Spelled) → (p >>= λ f. others f.1 >>= type_before f.0) ≡ Some ([], rest) → ⊥
some_types None others rest h = absurd cc
some_types (Some t) others rest h = by_others (others t.1) h where
  by_others : (q : Option (List Ty × List Spelled)) → q >>= type_before t.0 ≡ Some ([], rest) → ⊥
  by_others None h = absurd cc
  by_others (Some x) h =
      let none : t.0 ∷ x.0 ≡ [] = ap read_of h in
      absurd cc

-- types and the `>` behind them
pub types_read : (n : ℕ) (inside behind rest : List Spelled) (ts : List TypeTree) (glued : Bool)
    → between_each (codes ",") (ty_at n) inside ≡ Some (map ty_of ts, behind) → after_angle behind ≡ Some (glued, rest)
    → exact_types_at n inside ≡ Some (types_of ts glued, rest)
types_read n inside behind rest [] glued h a =
    absurd (some_types (ty_at n inside) (λ us. behind_each (codes ",") (ty_at n) (length us) us) behind h)
types_read n inside behind rest (t ∷ ts) glued h a =
    rw (h, a) (ap (λ (xs : List Argument). Some (Some (Angled (pack_arguments xs) glued), rest))
    (sym (exact_each (t ∷ ts))))

each_nesting : (ts : List TypeTree) → arguments_nesting (pack_arguments (map (λ t. Exact (ty_of t)) ts)) ≡ most_over
    ty_nesting (map ty_of ts)
each_nesting [] = refl
each_nesting (t ∷ ts) = ap (λ (n : ℕ). max (ty_nesting (ty_of t)) n) (each_nesting ts)

pub types_measured : (ts : List TypeTree) (glued : Bool) → most_over ty_nesting (map ty_of ts) ≡ maybe_angled_nesting
    (types_of ts glued)
types_measured [] glued = refl
types_measured (t ∷ ts) glued = sym (each_nesting (t ∷ ts))
