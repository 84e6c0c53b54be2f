-- What a function gives, by what the call at its end gave.
use Rattle.std.proofs.Common.{◌≡◌, ℕ, suc, ◌≤◌, ◌<◌, Bool, true, false, cond, List, Some, None, Result, Ok, Err}
use Rattle.std.proofs.Common.{IfOk, arith, ◌-◌, [], ◌∷◌, ◌++◌, length, take, drop, refl, sym, subst, ◌∙◌}
use Rattle.std.proofs.Math.ListN.{get_or}
use Rattle.std.proofs.Math.Seq.{take-length}
use Rattle.racer_base.specs.declared.ids.Place.{Place}
use Rattle.java_lexer.specs.declared.token.Token.{Token}
use Rattle.java_tree.specs.declared.words.Spelled.{Spelled}
use Rattle.java_tree.specs.KeptPlaces.{Places, Marks, Puts, AreAt, some_onto}
use Rattle.java_tree.specs.Trees.{Expr}
use Rattle.java_parser_grammar.specs.ExpressionReading.{Stop, Next, grown}
use Rattle.java_parser_types.specs.declared.error.ReadError.{ReadError}
use Rattle.java_parser_types.specs.LedPlaces.{Leads, LeadsOn}
use Rattle.java_parser_types.specs.ReadAnswer.{Gives}
use Rattle.java_parser_types.proofs.LedMarks.{some_led, led_made}
use Rattle.java_parser_expressions.specs.declared.progress.Progress.{Progress}
use Rattle.java_parser_expressions.specs.declared.progress.Progress.TheVariants as turned
use Rattle.java_parser_expressions.specs.TurnView.{turn_of, turn_puts, turn_left, TurnLeadsOn, IsWithin}

pub within : (r : Result Progress ReadError) (m n : ℕ) → IfOk r (λ x. IsWithin x m) → m ≤ n → IfOk r (λ x. IsWithin x n)
within (Ok (turned.Stop a)) m n h le = tt
within (Ok (turned.Next a rest)) m n h le = omega arith
within (Err e) m n h le = tt

-- what is fewer than m is at most n, where m is at most one more
pub sooner : {A : Type 0} (count : A → ℕ) (r : Result A ReadError) (m n : ℕ) → IfOk r (λ x. count x < m) → m ≤ suc n
    → IfOk r (λ x. count x ≤ n)
sooner count (Ok x) m n h le = omega arith
sooner count (Err e) m n h le = tt

no_stop : (small : Bool) (e a : Expr) (ts : List Spelled) → cond small (Some (Next e ts)) None ≡ Some (Stop a) → ⊥
no_stop true e a ts h = cc
no_stop false e a ts h = cc

-- the tokens behind a larger expression are its own
pub grown_places : (r : Result Progress ReadError) (n : ℕ) (e : Expr) (ts : List Spelled) (first puts : Puts)
    (here at : Places) → Gives turn_of r (grown n e ts) → LeadsOn first puts here at
    → IfOk r (λ x. (marks : Marks) → turn_puts x marks ≡ puts marks) → IfOk r (λ x. turn_left x at ≡ at)
    → IfOk r (λ x. TurnLeadsOn first x here)
grown_places (Ok (turned.Next a rest)) n e ts first puts here at given led same behind =
    λ start so_far marks left. subst (λ (ms : Marks). AreAt ms start) (sym (same marks))
    (led start so_far marks (subst (λ (ps : Places). AreAt marks ps) behind left))
grown_places (Ok (turned.Stop a)) n e ts first puts here at given led same behind = absurd (no_stop _ _ _ _ given)
grown_places (Err x) n e ts first puts here at given led same behind = tt

-- the same of tokens whose places are those of others
pub turned_from : (r : Result Progress ReadError) (before : Puts) (here at : Places) → at ≡ here
    → IfOk r (λ x. TurnLeadsOn before x at) → IfOk r (λ x. TurnLeadsOn before x here)
turned_from r before here at same on = subst (λ (ps : Places). IfOk r (λ x. TurnLeadsOn before x ps)) same on

-- what is behind a `new` and a base
pub made_led : (p : Place) (base : Places) (read : Puts) (here left : Places) → Leads read here left
    → Leads (λ rest. Some p ∷ some_onto base (read rest)) (p ∷ (base ++ here)) left
made_led p base read here left led =
    λ rest a. (refl, some_led base here (base ++ here) refl (read rest) (led rest a))

pub made_through : {A : Type 0} (r : Result A ReadError) (whole : A → Puts) (left : A → Places) (p : Place)
    (base : Places) (first all : Puts) (here at : Places) → LeadsOn first all here at
    → IfOk r (λ x. (marks : Marks) → whole x marks ≡ Some p ∷ some_onto base (all marks)) → IfOk r (λ x. left x ≡ at)
    → IfOk r (λ x. (start : Places) → Leads first start here → Leads (whole x) (p ∷ (base ++ start)) (left x))
made_through (Ok x) whole left p base first all here at led same behind =
    λ start given. led_made {A = Puts} (Ok (whole x)) (λ f. f) (λ f. left x) (λ rest. Some p ∷ some_onto base
    (all rest)) (p ∷ (base ++ start)) at (made_led p base all start at (led start given)) same behind
made_through (Err e) whole left p base first all here at led same behind = tt

-- from where a part was led to
pub led_from : {A : Type 0} (r : Result A ReadError) (whole : A → Puts) (left : A → Places) (put : Places → Places)
    (first : Puts) (start here : Places) → Leads first start here
    → IfOk r (λ x. (start : Places) → Leads first start here → Leads (whole x) (put start) (left x))
    → IfOk r (λ x. Leads (whole x) (put start) (left x))
led_from (Ok x) whole left put first start here led on = on start led
led_from (Err e) whole left put first start here led on = tt

-- what is made keeps the places of what it was made of
pub puts_as : {A : Type 0} (r : Result A ReadError) (whole : A → Puts) (part puts : Puts)
    → IfOk r (λ x. (marks : Marks) → whole x marks ≡ part marks) → ((marks : Marks) → part marks ≡ puts marks)
    → IfOk r (λ x. (marks : Marks) → whole x marks ≡ puts marks)
puts_as (Ok x) whole part puts made same = λ marks. made marks ∙ same marks
puts_as (Err e) whole part puts made same = tt

-- tokens are the first and those behind it
pub first_and_rest : (ts : List Token) (d : Token) → 1 ≤ length ts → d ≡ get_or ts 0 d → ts ≡ d ∷ take (length ts - 1)
    (drop 1 ts)
first_and_rest [] d h e = absurd (omega arith)
first_and_rest (t ∷ ts) d h e =
    let k : length (t ∷ ts) - 1 ≡ length ts = omega arith in
    rw (e, k, take-length ts) refl
