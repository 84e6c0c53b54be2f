-- A `for` is its head and then its body.
use Rattle.std.proofs.Common.{◌≡◌, ℕ, Bool, true, false, List, Option, Some, None, codes, refl, cond}
use Rattle.java_tree.specs.declared.words.Spelled.{Spelled}
use Rattle.java_tree.specs.Trees.{Modifier, Ty, pack_exprs, Start, Declares, Runs, Stmt}
use Rattle.java_parser_grammar.specs.BalancedReading.{Reading, before_type_at}
use Rattle.java_parser_grammar.specs.Taking.{◌>>=◌, match_option, after_sign}
use Rattle.java_parser_grammar.specs.Readers.{Readers}
use Rattle.java_parser_grammar.specs.Lookahead.{looks_local, name_and_colon}
use Rattle.java_parser_grammar.specs.StatementReading.{variables_at, expr_until, runs_until, for_from}
use Rattle.java_parser_grammar.specs.StatementReading.{each_from, for_declared, for_typed, for_run, for_at}
use Rattle.java_parser_methods.specs.HeadReading.{headed_with, counted_head_at, each_head_at, declared_head_at}
use Rattle.java_parser_methods.specs.HeadReading.{typed_head_at, run_head_at, head_at}

-- two steps one after the other
pub steps : {A B C : Type 0} (o : Option A) (f : A → Option C) (g : A → Option B) (h : B → Option C)
    → ((x : A) → f x ≡ (g x >>= h)) → (o >>= f) ≡ ((o >>= g) >>= h)
steps (Some x) f g h e = e x
steps None f g h e = refl

pub choices : {A B C : Type 0} (o : Option A) (a : Option C) (f : A → Option C) (b : Option B) (g : A
    → Option B) (h : B → Option C) → a ≡ (b >>= h) → ((x : A) → f x ≡ (g x >>= h))
    → match_option o a f ≡ (match_option o b g >>= h)
choices (Some x) a f b g h d e = e x
choices None a f b g h d e = d

tests : {B C : Type 0} (t : Bool) (a b : Option C) (c d : Option B) (h : B → Option C) → a ≡ (c >>= h) → b ≡ (d >>= h)
    → cond t a b ≡ (cond t c d >>= h)
tests true a b c d h e f = e
tests false a b c d h e f = f

made_last : {B C D X : Type 0} (o : Option B) (f : B → Option C) (make : B → X) (g : X → Option D) (h : D → Option C)
    → ((b : B) → f b ≡ (g (make b) >>= h)) → (o >>= f) ≡ (((o >>= λ b. Some (make b)) >>= g) >>= h)
made_last None f make g h e = refl
made_last (Some b) f make g h e = e b

-- two steps, of which one thing is made, and then others
grouped : {A B C D X : Type 0} (o : Option A) (p : A → Option B) (f : A → B → Option C) (pair : A → B → X)
    (g : X → Option D) (h : D → Option C) → ((a : A) (b : B) → f a b ≡ (g (pair a b) >>= h))
    → (o >>= λ a. p a >>= λ b. f a b) ≡ (((o >>= λ a. p a >>= λ b. Some (pair a b)) >>= g) >>= h)
grouped None p f pair g h e = refl
grouped (Some a) p f pair g h e = made_last (p a) (f a) (pair a) g h (e a)

module _ (readers : Readers) (read : Reading Stmt) (n : ℕ) where
  counted : (start : Start) (ts : List Spelled) → for_from readers read n start ts ≡ (counted_head_at readers n start
      ts >>= headed_with readers read)
  unfolding for_from counted_head_at
  counted start ts =
      steps (after_sign (codes ";") ts) _ _ _ (λ a.
      steps (expr_until readers n (codes ";") a) _ _ _ (λ condition.
      steps (after_sign (codes ";") condition.1) _ _ _ (λ b.
      steps (runs_until readers n (codes ")") b) _ _ _ (λ updates.
      steps (after_sign (codes ")") updates.1) _ _ _ (λ c. refl)))))

  each : (x : (List Modifier × Ty) × List ℕ) (ts : List Spelled) → each_from readers read n x.0.0 x.0.1 x.1
      ts ≡ (each_head_at readers n x ts >>= headed_with readers read)
  unfolding each_from each_head_at
  each x ts =
      steps (readers.expr n 0 ts) _ _ _ (λ e.
      steps (after_sign (codes ")") e.1) _ _ _ (λ r. refl))

  declared : (ms : List Modifier) (t : Ty) (ts : List Spelled) → for_declared readers read n ms t
      ts ≡ (declared_head_at readers n (ms, t) ts >>= headed_with readers read)
  declared ms t ts =
      choices (name_and_colon ts) _ _ _ _ _ (steps (variables_at readers n ms t ts) _ _ _
      (λ l. counted (Declares l.0) l.1)) (λ x. each ((ms, t), x.0) x.1)

  typed : (ts : List Spelled) → for_typed readers read n ts ≡ (typed_head_at readers n ts >>= headed_with readers read)
  unfolding for_typed typed_head_at
  typed ts = grouped (before_type_at ts) _ _ _ _ _ (λ ms t. declared ms.0 t.0 t.1)

  ran : (ts : List Spelled) → for_run readers read n ts ≡ (run_head_at readers n ts >>= headed_with readers read)
  unfolding for_run run_head_at
  ran ts = steps (runs_until readers n (codes ";") ts) _ _ _ (λ es. counted (Runs (pack_exprs es.0)) es.1)

  pub for_is_headed : (ts : List Spelled) → for_at readers read n ts ≡ (head_at readers n ts >>= headed_with readers
      read)
  unfolding for_at head_at
  for_is_headed ts = steps (after_sign (codes "(") ts) _ _ _ (λ r. tests (looks_local r) _ _ _ _ _ (typed r) (ran r))
