-- A turn goes on to an expression that is formed, small, and spelled by what was taken.
use Rattle.std.proofs.Common.{◌≡◌, ℕ, zero, suc, ◌≤◌, Bool, true, false, cond, not, ◌&&◌, leb, List, ◌∷◌, Option}
use Rattle.std.proofs.Common.{Some, None, IsTrue, refl, sym, ap, ◌∙◌, arith, leb-true, codes}
use Rattle.std.proofs.lemmas.Bool.{false≢true, and_parts}
use Rattle.std.specs.Prelude.{is_some}
use Rattle.java_tree.specs.declared.words.Spelled.{Spelled}
use Rattle.java_tree.specs.Words.{sign, keyword, identifier}
use Rattle.java_tree.specs.Operators.{binary_level, is_binary, is_assignment}
use Rattle.java_tree.specs.Trees.{Expr, Assign, Conditional, Binary, InstanceOf, Postfix, Field, Index, CallOn}
use Rattle.java_tree.specs.Trees.{Arguments, Reference, pack_exprs}
use Rattle.java_tree.specs.Spelling.{operator_onto, maybe_angled_onto, expr_onto}
use Rattle.java_tree.specs.Formed.{level, ends_open, is_lambda, is_variable, makes_array, FormedExpr}
use Rattle.java_tree.specs.Nesting.{expr_nesting}
use Rattle.java_parser_grammar.specs.Taking.{after_sign, after_name}
use Rattle.java_parser_grammar.specs.TypeReading.{tested_ty_at, types_at}
use Rattle.java_parser_grammar.specs.Leads.{Lead, Assigns, Asks, Joins, Tests, Steps, Selects, Indexes, Opens, Ends}
use Rattle.java_parser_grammar.specs.Leads.{Refers, Binds, lead, pull, pull_of, begins_lambda}
use Rattle.java_parser_grammar.specs.BalancedReading.{Reading}
use Rattle.java_parser_grammar.specs.ExpressionReading.{call_arguments_with, Turn, Stop, Next, grown}
use Rattle.java_parser_grammar.specs.ExpressionReading.{assign_with, conditional_with, binary_with, instance_with}
use Rattle.java_parser_grammar.specs.ExpressionReading.{select_with, refer_with, index_with, turn_with, go_on}
use Rattle.java_parser_grammar.specs.ExpressionReading.{climb_with}
use Rattle.java_parser_grammar.specs.ExpressionReading.{referred_at, lambda_level}
use Rattle.java_parser_grammar.proofs.Levels.{binary_most}
use Rattle.java_parser_grammar.proofs.Ensuring.{Ensures, then_ensures, if_ensures, match_ensures, weaker}
use Rattle.java_parser_grammar.proofs.Ensuring.{sign_taken, name_taken}
use Rattle.java_parser_grammar.proofs.LeadFacts.{LeadIs, lead_is}
use Rattle.java_parser_grammar.proofs.SoundTypes.{GotTy, tested_sound}
use Rattle.java_parser_grammar.proofs.SoundTypeLists.{GotTypes, types_sound, GotReferred, referred_sound}
use Rattle.java_parser_grammar.proofs.SoundLists.{Got, Grown, GotArguments, arguments_sound}

-- a turn from an expression that is not yet whole
abbrev pub Turns : ℕ → ℕ → Expr → List Spelled → Turn → Type 0
Turns n l a ts (Stop e) = e ≡ a
Turns n l a ts (Next e r) = Grown (suc n) l (expr_onto a ts) (e, r)

-- what ends open is gone on with by nothing
shut_by : (b : Bool) (p : ℕ) → (b ≡ true → suc p ≤ 0) → IsTrue (not b)
shut_by true p h = absurd (omega (arith, h refl))
shut_by false p h = refl

-- the level of what stands where a lambda may stand too
pub last_of : (begins lambda : Bool) (m k : ℕ) → m ≤ 12 → (begins ≡ true → lambda ≡ true) → (cond begins 0 m ≤ 12
    → cond begins 0 m ≤ k) → cond lambda 0 m ≤ k
last_of true true m k most h high = omega arith
last_of true false m k most h high = absurd (false≢true (h refl))
last_of false true m k most h high = omega arith
last_of false false m k most h high = high most

no_types : (types : Option Arguments) (ts : List Spelled) → is_some types ≡ false → maybe_angled_onto types ts ≡ ts
no_types None ts h = refl
no_types (Some a) ts h = absurd (false≢true (sym h))

module _ (n : ℕ) (read : ℕ → Reading Expr) (sound : (l : ℕ) (ts : List Spelled) → Ensures (Got n l ts) (read l ts))
  where
    grown_sound : (l : ℕ) (a : Expr) (ts : List Spelled) (e : Expr) (r : List Spelled) → FormedExpr e
        → (l ≤ 12 → l ≤ level e) → expr_onto a ts ≡ expr_onto e r → (IsTrue (ends_open e) → pull r ≤ 0)
        → Ensures (Turns n l a ts) (grown n e r)
    grown_sound l a ts e r formed high spelled shut = if_ensures (Turns n l a ts) (leb (expr_nesting e) (suc n)) _ _
        (λ c. record {
          formed = formed;
          high = high;
          small = leb-true (expr_nesting e) (suc n) c;
          spelled = spelled;
          shut = shut;
        })
        (λ c. tt)

    assign_sound : (l : ℕ) (a : Expr) (op : List ℕ) (ts r : List Spelled) → ts ≡ sign op ∷ r → FormedExpr a
        → IsTrue (is_assignment op) → IsTrue (is_variable a) → l ≤ 0 → Ensures (Turns n l a ts) (assign_with read n a op
        r)
    unfolding assign_with
    assign_sound l a op ts r e formed is variable low =
        let T : Turn → Type 0 = Turns n l a ts in
        then_ensures (Got n 0 r) T (read 0 r) _ (sound 0 r)
        (λ b g. grown_sound l a ts (Assign a op b.0) b.1 (formed, g.formed, is, variable) (λ _. low) (ap (expr_onto a)
        (e ∙ ap (λ (u : List Spelled). sign op ∷ u) g.spelled)) g.shut)

    conditional_sound : (l : ℕ) (a : Expr) (ts r : List Spelled) → ts ≡ sign (codes "?") ∷ r → FormedExpr a → l ≤ 1
        → 2 ≤ level a → IsTrue (not (ends_open a)) → Ensures (Turns n l a ts) (conditional_with read n a r)
    unfolding conditional_with
    conditional_sound l a ts r e formed low high shut =
        let T : Turn → Type 0 = Turns n l a ts in
        then_ensures (Got n 0 r) T (read 0 r) _ (sound 0 r)
        (λ b g. then_ensures _ T (after_sign (codes ":") b.1) _ (sign_taken (codes ":") b.1)
        (λ s f. then_ensures (Got n (lambda_level 1 s) s) T (read (lambda_level 1 s) s) _ (sound (lambda_level 1 s) s)
        (λ c h. grown_sound l a ts (Conditional a b.0 c.0) c.1 (
          formed,
          g.formed,
          h.formed,
          high,
          last_of (begins_lambda s) (is_lambda c.0) 1 (level c.0) (omega arith) h.lambda h.high,
          shut,
        )
        (λ _. low)
        (ap (expr_onto a) (e ∙ ap (λ (u : List Spelled). sign (codes "?") ∷ u) (g.spelled ∙ ap (expr_onto b.0) (f
        ∙ ap (λ (u : List Spelled). sign (codes ":") ∷ u) h.spelled)))) h.shut)))

    binary_sound : (l : ℕ) (a : Expr) (op : List ℕ) (ts r : List Spelled) → ts ≡ operator_onto op r → FormedExpr a
        → IsTrue (is_binary op) → l ≤ binary_level op → binary_level op ≤ level a → IsTrue (not (ends_open a))
        → Ensures (Turns n l a ts) (binary_with read n a op r)
    unfolding binary_with
    binary_sound l a op ts r e formed is low fits shut =
        let T : Turn → Type 0 = Turns n l a ts in
        let most = binary_most op in
        then_ensures (Got n (suc (binary_level op)) r) T (read (suc (binary_level op)) r) _
        (sound (suc (binary_level op)) r)
        (λ b g. grown_sound l a ts (Binary a op b.0) b.1 (formed, g.formed, is, fits, g.high (omega arith), shut)
        (λ _. low) (ap (expr_onto a) (e ∙ ap (operator_onto op) g.spelled)) g.shut)

    instance_sound : (l : ℕ) (a : Expr) (ts r : List Spelled) → ts ≡ keyword (codes "instanceof") ∷ r → FormedExpr a
        → l ≤ 8 → 8 ≤ level a → IsTrue (not (ends_open a)) → Ensures (Turns n l a ts) (instance_with n a r)
    unfolding instance_with
    instance_sound l a ts r e formed low high shut =
        let T : Turn → Type 0 = Turns n l a ts in
        then_ensures (GotTy n r) T (tested_ty_at n r) _ (tested_sound n r)
        (λ t g. grown_sound l a ts (InstanceOf a t.0) t.1 (formed, g.formed, high, shut) (λ _. low)
        (ap (expr_onto a) (e ∙ ap (λ (u : List Spelled). keyword (codes "instanceof") ∷ u) g.spelled))
        (λ ends. absurd (false≢true ends)))

    select_sound : (l : ℕ) (a : Expr) (ts r : List Spelled) → ts ≡ sign (codes ".") ∷ r → FormedExpr a → 14 ≤ level a
        → Ensures (Turns n l a ts) (select_with read n a r)
    unfolding select_with
    select_sound l a ts r e formed high =
        let T : Turn → Type 0 = Turns n l a ts in
        then_ensures (GotTypes n r) T (types_at n r) _ (types_sound n r)
        (λ types t. then_ensures _ T (after_name types.1) _ (name_taken types.1)
        (λ x f. match_ensures _ T (after_sign (codes "(") x.1) _ _ (sign_taken (codes "(") x.1)
        (if_ensures T (is_some types.0) _ _ (λ stand. tt)
        (λ none. grown_sound l a ts (Field a x.0) x.1 (formed, high) (λ low. omega arith) (ap (expr_onto a) (e
        ∙ ap (λ (u : List Spelled). sign (codes ".") ∷ u) (t.spelled ∙ no_types types.0 types.1 none ∙ f)))
        (λ ends. absurd (false≢true ends))))
        (λ s o. then_ensures (GotArguments n s) T (call_arguments_with read s) _ (arguments_sound n read sound s)
        (λ all g. grown_sound l a ts (CallOn a types.0 x.0 (pack_exprs all.0)) all.1
        (formed, t.formed, g.formed, high) (λ low. omega arith)
        (ap (expr_onto a) (e ∙ ap (λ (u : List Spelled). sign (codes ".") ∷ u) (t.spelled
        ∙ ap (maybe_angled_onto types.0) (f ∙ ap (λ (u : List Spelled). identifier x.0 ∷ u) (o
        ∙ ap (λ (u : List Spelled). sign (codes "(") ∷ u) g.spelled)))))
        (λ ends. absurd (false≢true ends))))))

    refer_sound : (l : ℕ) (a : Expr) (ts r : List Spelled) → ts ≡ sign (codes "::") ∷ r → FormedExpr a → 14 ≤ level a
        → Ensures (Turns n l a ts) (refer_with n a r)
    unfolding refer_with
    refer_sound l a ts r e formed high =
        let T : Turn → Type 0 = Turns n l a ts in
        then_ensures (GotReferred n r) T (referred_at n r) _ (referred_sound n r)
        (λ to g. grown_sound l a ts (Reference a to.0.0 to.0.1) to.1 (formed, g.formed, high) (λ low. omega arith)
        (ap (expr_onto a) (e ∙ ap (λ (u : List Spelled). sign (codes "::") ∷ u) g.spelled))
        (λ ends. absurd (false≢true ends)))

    index_sound : (l : ℕ) (a : Expr) (ts r : List Spelled) → ts ≡ sign (codes "[") ∷ r → FormedExpr a → 14 ≤ level a
        → IsTrue (not (makes_array a)) → Ensures (Turns n l a ts) (index_with read n a r)
    unfolding index_with
    index_sound l a ts r e formed high takes =
        let T : Turn → Type 0 = Turns n l a ts in
        then_ensures (Got n 0 r) T (read 0 r) _ (sound 0 r)
        (λ i g. then_ensures _ T (after_sign (codes "]") i.1) _ (sign_taken (codes "]") i.1)
        (λ s f. grown_sound l a ts (Index a i.0) s (formed, g.formed, high, takes) (λ low. omega arith)
        (ap (expr_onto a) (e ∙ ap (λ (u : List Spelled). sign (codes "[") ∷ u) (g.spelled ∙ ap (expr_onto i.0) f)))
        (λ ends. absurd (false≢true ends))))

    turn_sound : (l : ℕ) (a : Expr) (ts : List Spelled) → FormedExpr a → (d : Lead)
        → (IsTrue (ends_open a) → pull_of d ≤ 0) → LeadIs ts d → Ensures (Turns n l a ts) (turn_with read n l a d)
    unfolding turn_with
    turn_sound l a ts f (Assigns op r) h is =
        if_ensures (Turns n l a ts) (leb l 0 && is_variable a) _ _ (λ c. assign_sound l a op ts r is.0 f is.1
        (and_parts _ _ c).1 (leb-true _ _ (and_parts _ _ c).0)) (λ c. refl)
    turn_sound l a ts f (Asks r) h is = if_ensures (Turns n l a ts) (leb l 1 && leb 2 (level a)) _ _
        (λ c. conditional_sound l a ts r is f (leb-true _ _ (and_parts _ _ c).0) (leb-true _ _ (and_parts _ _ c).1)
        (shut_by (ends_open a) 1 h))
        (λ c. refl)
    turn_sound l a ts f (Joins op r) h is = if_ensures (Turns n l a ts) (leb l (binary_level op) && leb
        (binary_level op) (level a)) _ _ (λ c. binary_sound l a op ts r is.0 f is.1 (leb-true _ _ (and_parts _ _ c).0)
        (leb-true _ _ (and_parts _ _ c).1) (shut_by (ends_open a) (binary_level op) h)) (λ c. refl)
    turn_sound l a ts f (Tests r) h is = if_ensures (Turns n l a ts) (leb l 8 && leb 8 (level a)) _ _
        (λ c. instance_sound l a ts r is f (leb-true _ _ (and_parts _ _ c).0) (leb-true _ _ (and_parts _ _ c).1)
        (shut_by (ends_open a) 8 h)) (λ c. refl)
    turn_sound l a ts f (Steps op r) h is = if_ensures (Turns n l a ts) (leb l 13 && is_variable a) _ _
        (λ c. grown_sound l a ts (Postfix a op) r (f, is.1, (and_parts _ _ c).1)
        (λ _. leb-true _ _ (and_parts _ _ c).0) (ap (expr_onto a) is.0) (λ ends. absurd (false≢true ends)))
        (λ c. refl)
    turn_sound l a ts f (Selects r) h is = if_ensures (Turns n l a ts) (leb 14 (level a)) _ _ (λ c. select_sound l a ts
        r is f (leb-true _ _ c)) (λ c. refl)
    turn_sound l a ts f (Indexes r) h is = if_ensures (Turns n l a ts) (leb 14 (level a) && not (makes_array a)) _ _
        (λ c. index_sound l a ts r is f (leb-true _ _ (and_parts _ _ c).0) (and_parts _ _ c).1) (λ c. refl)
    turn_sound l a ts f (Refers r) h is = if_ensures (Turns n l a ts) (leb 14 (level a)) _ _ (λ c. refer_sound l a ts
        r is f (leb-true _ _ c)) (λ c. refl)
    turn_sound l a ts f Opens h is = refl
    turn_sound l a ts f Binds h is = refl
    turn_sound l a ts f Ends h is = refl

    -- ---- turn by turn

    went_on : (l : ℕ) (a : Expr) (ts : List Spelled) (s : Turn) (go : Expr → Reading Expr) → Grown (suc n) l
        (expr_onto a ts) (a, ts) → Turns n l a ts s → ((e : Expr) (r : List Spelled) → Grown (suc n) l (expr_onto a ts)
        (e, r) → Ensures (Grown (suc n) l (expr_onto a ts)) (go e r)) → Ensures (Grown (suc n) l (expr_onto a ts))
        (go_on s ts go)
    went_on l a ts (Stop e) go here same next = rw same here
    went_on l a ts (Next e r) go here more next = next e r more

    pub moved : (l : ℕ) (ts us : List Spelled) (x : Expr × List Spelled) → ts ≡ us → Grown (suc n) l us x → Grown
        (suc n) l
        ts x
    moved l ts us x e g = rw e g

    pub climb_sound : (k l : ℕ) (a : Expr) (ts : List Spelled) → Grown (suc n) l (expr_onto a ts) (a, ts)
        → Ensures (Grown (suc n) l (expr_onto a ts)) (climb_with read n l k a ts)
    unfolding climb_with
    climb_sound zero l a ts g = tt
    climb_sound (suc k) l a ts g =
        then_ensures (Turns n l a ts) (Grown (suc n) l (expr_onto a ts)) (turn_with read n l a (lead ts)) _
        (turn_sound l a ts g.formed (lead ts) g.shut (lead_is ts))
        (λ s h. went_on l a ts s (climb_with read n l k) g h (λ e r w.
        weaker (Grown (suc n) l (expr_onto e r)) (Grown (suc n) l (expr_onto a ts)) (climb_with read n l k e r)
        (λ x p. moved l (expr_onto a ts) (expr_onto e r) x w.spelled p)
        (climb_sound k l e r (record {
          formed = w.formed;
          high = w.high;
          small = w.small;
          spelled = refl;
          shut = w.shut;
        }))))
