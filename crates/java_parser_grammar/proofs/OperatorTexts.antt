-- What the signs of operators are to the reading.
use Rattle.std.proofs.Common.{map, ◌≡◌, ℕ, true, List, [], ◌∷◌, None, IsTrue, inl, inr, refl, sym, subst, codes}
use Rattle.std.specs.Prelude.{nat_eq}
use Rattle.std.specs.Cmp.Lexicographic.{pointwise, bytes_decides}
use Rattle.std.proofs.lemmas.Bool.{false≢true, or_cases}
use Rattle.racer_base.specs.Name.{is_listed}
use Rattle.java_tree.specs.declared.words.Spelled.{Spelled}
use Rattle.java_tree.specs.Words.{sign}
use Rattle.java_tree.specs.Operators.{BinaryOperator, LogicalOr, Above, ShiftRight, text_of, binary_operators}
use Rattle.java_tree.specs.Operators.{is_binary}
use Rattle.java_tree.specs.Operators.{assignment_operators, is_assignment, is_step, is_prefix}
use Rattle.java_tree.specs.Spelling.{operator_onto}
use Rattle.java_tree.specs.FormedModifiers.{Each}
use Rattle.java_parser_grammar.specs.Taking.{after_glued}
use Rattle.java_parser_grammar.specs.Leads.{Assigns, Joins, Steps, lead, behind}
use Rattle.java_parser_grammar.specs.ExpressionReading.{class_at}

-- what holds of each listed text holds of a text that is listed
pub listed_cases : (P : List ℕ → Type 0) (words : List (List ℕ)) (text : List ℕ) → is_listed words text ≡ true
    → Each P words → P text
listed_cases P [] text h each = absurd (false≢true h)
listed_cases P (w ∷ ws) text h each =
    elim (or_cases (pointwise nat_eq text w) (is_listed ws text) h) [
      | inl e ↦ let same : text ≡ w = (bytes_decides text w).0 e in subst P (sym same) each.0
      | inr e ↦ listed_cases P ws text e each.1
    ]

pub prefix_cases : (P : List ℕ → Type 0) → P (codes "+") → P (codes "-") → P (codes "!") → P (codes "~")
    → P (codes "++") → P (codes "--") → (op : List ℕ) → IsTrue (is_prefix op) → P op
prefix_cases P a b c d e f op h = listed_cases P (codes "+" ∷ codes "-" ∷ codes "!" ∷ codes "~" ∷ codes "++"
    ∷ codes "--" ∷ []) op h (a, (b, (c, (d, (e, (f, tt))))))

pub step_cases : (P : List ℕ → Type 0) → P (codes "++") → P (codes "--") → (op : List ℕ) → IsTrue (is_step op) → P op
step_cases P a b op h = listed_cases P (codes "++" ∷ codes "--" ∷ []) op h (a, (b, tt))

each_operator : (P : List ℕ → Type 0) → ((o : BinaryOperator) → P (text_of o)) → (os : List BinaryOperator)
    → Each P (map text_of os)
each_operator P f [] = tt
each_operator P f (o ∷ os) = (f o, each_operator P f os)

pub binary_cases : (P : List ℕ → Type 0) → ((o : BinaryOperator) → P (text_of o)) → (op : List ℕ)
    → IsTrue (is_binary op) → P op
binary_cases P f op h = listed_cases P (map text_of binary_operators) op h (each_operator P f binary_operators)

-- ---- what they lead to

pub assignment_leads : (op : List ℕ) (ts : List Spelled) → IsTrue (is_assignment op) → lead (sign op ∷ ts) ≡ Assigns
    op ts
unfolding lead
assignment_leads op ts h = rw h refl

pub step_leads : (op : List ℕ) (ts : List Spelled) → IsTrue (is_step op) → lead (sign op ∷ ts) ≡ Steps op ts
unfolding lead
step_leads op ts h = step_cases (λ op. lead (sign op ∷ ts) ≡ Steps op ts) refl refl op h

operator_leads : (o : BinaryOperator) (ts : List Spelled) → after_glued ts ≡ None → lead (operator_onto (text_of o)
    ts) ≡ Joins (text_of o) ts
unfolding lead
operator_leads Above ts e = rw e refl
operator_leads ShiftRight ts e = rw e refl
operator_leads _ ts e = refl

pub binary_leads : (op : List ℕ) (ts : List Spelled) → IsTrue (is_binary op) → after_glued ts ≡ None
    → lead (operator_onto op ts) ≡ Joins op ts
binary_leads op ts b e = binary_cases (λ op. lead (operator_onto op ts) ≡ Joins op ts) (λ o. operator_leads o ts e) op b

-- ---- no name of a class goes on with an operator

pub assignment_no_class : (op : List ℕ) (ts : List Spelled) → IsTrue (is_assignment op) → class_at true (sign op
    ∷ ts) ≡ None
unfolding class_at
assignment_no_class op ts h =
    listed_cases (λ op. class_at true (sign op ∷ ts) ≡ None) assignment_operators op h
    (refl, (refl, (refl, (refl, (refl, (refl, (refl, (refl, (refl, (refl, (refl, (refl, tt))))))))))))

pub step_no_class : (op : List ℕ) (ts : List Spelled) → IsTrue (is_step op) → class_at true (sign op ∷ ts) ≡ None
unfolding class_at
step_no_class op ts h = step_cases (λ op. class_at true (sign op ∷ ts) ≡ None) refl refl op h

operator_no_class : (o : BinaryOperator) (ts : List Spelled) → class_at true (operator_onto (text_of o) ts) ≡ None
unfolding class_at
operator_no_class LogicalOr ts = refl
operator_no_class _ ts = refl

pub binary_no_class : (op : List ℕ) (ts : List Spelled) → IsTrue (is_binary op)
    → class_at true (operator_onto op ts) ≡ None
binary_no_class op ts b = binary_cases (λ op. class_at true (operator_onto op ts) ≡ None) (λ o. operator_no_class o
    ts) op b

-- ---- they are no parentheses

pub assignment_balanced : (op : List ℕ) (d : ℕ) (ts : List Spelled) → IsTrue (is_assignment op) → behind d (sign op
    ∷ ts) ≡ behind d ts
unfolding behind
assignment_balanced op d ts h =
    listed_cases (λ op. behind d (sign op ∷ ts) ≡ behind d ts) assignment_operators op h
    (refl, (refl, (refl, (refl, (refl, (refl, (refl, (refl, (refl, (refl, (refl, (refl, tt))))))))))))

pub prefix_balanced : (op : List ℕ) (d : ℕ) (ts : List Spelled) → IsTrue (is_prefix op) → behind d (sign op
    ∷ ts) ≡ behind d ts
unfolding behind
prefix_balanced op d ts h = prefix_cases (λ op. behind d (sign op ∷ ts) ≡ behind d ts) refl refl refl refl refl refl
    op h

pub step_balanced : (op : List ℕ) (d : ℕ) (ts : List Spelled) → IsTrue (is_step op) → behind d (sign op ∷ ts) ≡ behind
    d ts
unfolding behind
step_balanced op d ts h = step_cases (λ op. behind d (sign op ∷ ts) ≡ behind d ts) refl refl op h

operator_balanced : (o : BinaryOperator) (d : ℕ) (ts : List Spelled) → behind d (operator_onto (text_of o) ts)
    ≡ behind d ts
unfolding behind
operator_balanced LogicalOr d ts = refl
operator_balanced _ d ts = refl

pub binary_balanced : (op : List ℕ) (d : ℕ) (ts : List Spelled) → IsTrue (is_binary op) → behind d (operator_onto op ts)
    ≡ behind d ts
binary_balanced op d ts b = binary_cases (λ op. behind d (operator_onto op ts) ≡ behind d ts) (λ o. operator_balanced
    o d ts) op b
