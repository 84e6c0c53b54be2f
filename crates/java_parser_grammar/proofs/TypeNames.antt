-- Names that go on as a type, and names with `[ ]` and `.class` behind them.
use Rattle.std.proofs.Common.{◌≡◌, ℕ, zero, suc, Bool, true, false, not, List, [], ◌∷◌, length, ◌≤◌, Some, None, IsTrue}
use Rattle.std.proofs.Common.{refl, sym, ap, ◌∙◌, arith, codes}
use Rattle.std.proofs.lemmas.Bool.{false≢true}
use Rattle.java_tree.specs.declared.words.Spelled.{Spelled}
use Rattle.java_tree.specs.Words.{sign, keyword, identifier}
use Rattle.java_tree.specs.Trees.{Typed, Named, Parts, no_part, part_then, Bare, Generic, Arguments, Angled}
use Rattle.java_tree.specs.Spelling.{behind_points, brackets_onto, more_parts_onto, angled_onto}
use Rattle.java_tree.specs.Formed.{are_bare_parts, is_no_expression, FormedParts, FormedAngled}
use Rattle.java_tree.specs.Nesting.{parts_nesting, angled_nesting}
use Rattle.java_parser_grammar.specs.TypeReading.{no_operand_at}
use Rattle.java_parser_grammar.specs.ExpressionReading.{AtArray, class_at, bare_parts, goes_typed}
use Rattle.java_parser_grammar.proofs.TypeFronts.{brackets_longer}
use Rattle.java_parser_grammar.proofs.FoundTypes.{brackets_found}
use Rattle.java_parser_grammar.proofs.Angles.{angled_closes}
use Rattle.java_parser_grammar.proofs.Operands.{array_names}

-- ---- references

brackets_no_class : (m : ℕ) (ts : List Spelled) → class_at true (brackets_onto m (sign (codes "::") ∷ ts)) ≡ None
unfolding class_at
brackets_no_class zero ts = refl
brackets_no_class (suc m) ts =
    let r = sign (codes "::") ∷ ts in
    rw (brackets_found (length (brackets_onto (suc m) r)) (suc m) r (omega (arith, brackets_longer (suc m) r)) refl)
    refl

pub parts_no_class : (ps : Parts) (m : ℕ) (ts : List Spelled) → class_at true (more_parts_onto ps (brackets_onto m
    (sign (codes "::") ∷ ts))) ≡ None
unfolding class_at
parts_no_class no_part m ts = brackets_no_class m ts
parts_no_class (part_then (Bare x) ps) m ts = rw (parts_no_class ps m ts) refl
parts_no_class (part_then (Generic x (Angled list g)) ps) m ts = refl

pub angled_no_class : (a : Arguments) (ts : List Spelled) → class_at true (angled_onto a ts) ≡ None
unfolding class_at
angled_no_class (Angled list g) ts = refl

parts_no_operand : (ps : Parts) (m : ℕ) (ts : List Spelled) → no_operand_at (more_parts_onto ps (brackets_onto m
    (sign (codes "::") ∷ ts))) ≡ true
parts_no_operand no_part zero ts = refl
parts_no_operand no_part (suc m) ts = refl
parts_no_operand (part_then p ps) m ts = refl

-- type arguments and what stands behind them
pub angled_goes : (a : Arguments) → FormedAngled a → (ps : Parts) (m l : ℕ) (ts : List Spelled) → angled_nesting a ≤ l
    → goes_typed l (angled_onto a (more_parts_onto ps (brackets_onto m (sign (codes "::") ∷ ts)))) ≡ true
angled_goes (Angled list g) f ps m l ts fits =
    angled_closes list g f.0 l (more_parts_onto ps (brackets_onto m (sign (codes "::") ∷ ts))) fits
    ∙ parts_no_operand ps m ts

-- parts behind a name, of which one has type arguments, or `[ ]` stand behind them
pub parts_go : (ps : Parts) → FormedParts ps → (m : ℕ) → (m ≡ 0 → are_bare_parts ps ≡ false) → (l : ℕ) (ts : List
    Spelled) → parts_nesting ps ≤ l → goes_typed l (more_parts_onto ps (brackets_onto m (sign (codes "::") ∷ ts)))
    ≡ true
parts_go no_part f zero h l ts fits = absurd (false≢true (sym (h refl)))
parts_go no_part f (suc m) h l ts fits = refl
parts_go (part_then (Bare x) ps) f m h l ts fits = parts_go ps f.1 m h l ts (omega arith)
parts_go (part_then (Generic x a) ps) f m h l ts fits = angled_goes a f.0 ps m l ts (omega arith)

pub typed_parts : (ps : Parts) (m : ℕ) → is_no_expression (Typed (Named ps) m) ≡ true → m ≡ 0
    → are_bare_parts ps ≡ false
typed_parts ps zero is none = by_test (are_bare_parts ps) is where
  by_test : (b : Bool) → not b ≡ true → b ≡ false
  by_test true e = absurd cc
  by_test false e = refl
typed_parts ps (suc m) is none = absurd (omega (arith, none))

-- ---- classes

unfoldable pub names_of : Parts → List (List ℕ)
names_of no_part = []
names_of (part_then (Bare x) ps) = x ∷ names_of ps
names_of (part_then (Generic x a) ps) = names_of ps

pub bare_named : (ps : Parts) → IsTrue (are_bare_parts ps) → bare_parts (names_of ps) ≡ ps
unfolding names_of
bare_named no_part f = refl
bare_named (part_then (Bare x) ps) f = ap (part_then (Bare x)) (bare_named ps f)
bare_named (part_then (Generic x a) ps) f = absurd (false≢true f)

names_spelled : (ps : Parts) → IsTrue (are_bare_parts ps) → (rest : List Spelled) → more_parts_onto ps rest
    ≡ behind_points (names_of ps) rest
unfolding names_of
names_spelled no_part f rest = refl
names_spelled (part_then (Bare x) ps) f rest =
    ap (λ (ts : List Spelled). sign (codes ".") ∷ identifier x ∷ ts) (names_spelled ps f rest)
names_spelled (part_then (Generic x a) ps) f rest = absurd (false≢true f)

pub bare_names : (ps : Parts) → IsTrue (are_bare_parts ps) → (m : ℕ) (rest : List Spelled) → class_at true
    (more_parts_onto ps (brackets_onto (suc m) (sign (codes ".") ∷ keyword (codes "class") ∷ rest))) ≡ Some (
      (names_of ps, AtArray (suc m)),
      rest,
    )
bare_names ps f m rest =
    ap (class_at true) (names_spelled ps f (brackets_onto (suc m) (sign (codes ".") ∷ keyword (codes "class") ∷ rest)))
    ∙ array_names (names_of ps) m rest
