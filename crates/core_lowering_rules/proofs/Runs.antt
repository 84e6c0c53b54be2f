-- Code that makes one stack of kinds of another: core code, and values of expressions, which are their own code.
use Rattle.std.proofs.Common.{◌≡◌, ℕ, suc, ◌+◌, ◌-◌, Bool, true, false, cond, ◌&&◌, List, [], ◌∷◌, ◌++◌, Option}
use Rattle.std.proofs.Common.{Some, None}
use Rattle.std.proofs.Common.{length, drop, refl, sym, ap, ◌∙◌, subst, arith, nat_le, length-append, not, append_assoc}
use Rattle.std.proofs.Math.Seq.{drop-append_seam}
use Rattle.std.proofs.lemmas.Bool.{le-leb, eq-eqb, and_from, and_parts}
use Rattle.std.proofs.lemmas.List.Folds.{list_all-append}
use Rattle.std.proofs.lemmas.Option.{same_Some, none-some}
use Rattle.std.specs.List.{list_all}
use Rattle.racer_base.specs.declared.ids.Kind.{Kind}
use Rattle.racer_base.specs.declared.ids.Kind.TheVariants as types
use Rattle.racer_base.specs.declared.ids.ClassId.{ClassId}
use Rattle.racer_base.specs.declared.ids.Place.{Place}
use Rattle.core_code.specs.declared.code.LockKind.{LockKind}
use Rattle.core_code.specs.declared.code.Op.{Op as CoreOp}
use Rattle.core_code.specs.declared.code.Op.TheVariants.{Outside}
use Rattle.core_code.specs.Tree.{Tree, Op, Choice, Loop, Sync, Operation, in_sequence, steps_of}
use Rattle.core_code.specs.Facts.{height_after, same_height, pops, pushes}
use Rattle.core_code.specs.CallFacts.{is_right_call}
use Rattle.core_code.specs.Core.{Core, Method}
use Rattle.core_code.specs.Kinds.{StackKind, Opaque, joined_kind, joined_stack, same_class, fits, fits_class}
use Rattle.core_code.specs.KindCheck.{Kinds, and_then, where_true, after_popping, kinds_after, kinds_after_op}
use Rattle.core_code.specs.KindCheck.{same_stack}
use Rattle.core_code.proofs.KindLemmas.{same_heights}
use Rattle.core_lowering_rules.specs.ValueKinds.{ValueKind, Of}
use Rattle.core_lowering_rules.specs.ValueKinds as value
use Rattle.core_lowering_drafts.specs.Drafts.{Normal, is_same, op_end, in_order}
use Rattle.core_lowering_drafts.specs.Only.{Code as Trees, one, fork, loop_of}
use Rattle.core_lowering_drafts.specs.Plain.{plain_code}
use Rattle.core_lowering_drafts.proofs.Steady.{is_steady, steady-append, plain-append}
use Rattle.core_lowering_rules.specs.Context.{Context, Code, op_at, op, choice, converted}
use Rattle.core_lowering_drafts.specs.Sites.{lock_at}
use Rattle.core_lowering_rules.proofs.Suits.{Suits, class_equal}

-- what goes on from a value that is there
pub then-agree : {A B : Type 0} (o : Option A) (f g : A → Option B) → ((x : A) → f x ≡ g x) →
    elim o as (λ (_ : Option A). Option B) [ None ↦ None | Some x ↦ f x ] ≡
    elim o as (λ (_ : Option A). Option B) [ None ↦ None | Some x ↦ g x ]
then-agree None f g same = refl
then-agree (Some x) f g same = same x

then-assoc : {A B C : Type 0} (o : Option A) (f : A → Option B) (g : B → Option C) →
    elim (elim o as (λ (_ : Option A). Option B) [ None ↦ None | Some x ↦ f x ]) as (λ (_ : Option B). Option C) [
      | None ↦ None
      | Some y ↦ g y
    ] ≡
    elim o as (λ (_ : Option A). Option C) [
      | None ↦ None
      | Some x ↦ elim (f x) as (λ (_ : Option B). Option C) [ None ↦ None | Some y ↦ g y ]
    ]
then-assoc None f g = refl
then-assoc (Some x) f g = refl

-- what pops values that lie on top
pub popped : (kind : StackKind) (values stack : List StackKind) (n : ℕ) → length values ≡ n →
    after_popping n kind (values ++ stack) ≡ Some (kind ∷ stack)
popped kind values stack n many =
    subst (λ k. after_popping k kind (values ++ stack) ≡ Some (kind ∷ stack)) many
    (let total = length-append values stack in
    let enough : nat_le (length values) (length (values ++ stack)) ≡ true =
    le-leb (length values) (length (values ++ stack)) (omega arith) in
    ap (λ b. where_true b (kind ∷ drop (length values) (values ++ stack))) enough
    ∙ ap (λ (rest : List StackKind). Some (kind ∷ rest)) (drop-append_seam values stack))

-- the height of the stack, where values on top go and others come
pub moved : (values made rest : List StackKind) (n k : ℕ) → length values ≡ n → length made ≡ k →
    cond (nat_le n (length (values ++ rest))) (Some (length (values ++ rest) - n + k)) None ≡
    Some (length (made ++ rest))
moved values made rest n k p q =
    let before = length-append values rest in
    let after = length-append made rest in
    ap (λ b. cond b (Some (length (values ++ rest) - n + k)) None) (le-leb n (length (values ++ rest)) (omega arith))
    ∙ ap (λ (h : ℕ). Some h) (omega arith)

-- stacks that are joined have the height of what they are joined to
joined-from : (a b : StackKind) (left right : List StackKind) (o : Kinds) → joined_stack left right ≡ o →
    ((v : List StackKind) → joined_stack left right ≡ Some v → (length left ≡ length v) × (length right ≡ length v)) →
    (v : List StackKind) →
    elim o as (λ (x : Kinds). Kinds) [ None ↦ None | Some rest ↦ Some (joined_kind a b ∷ rest) ] ≡ Some v →
    (suc (length left) ≡ length v) × (suc (length right) ≡ length v)
joined-from a b left right None there more v e = absurd (none-some _ e)
joined-from a b left right (Some rest) there more v e =
    let same : joined_kind a b ∷ rest ≡ v = same_Some _ _ e in
    let lengths = more rest there in
    (ap suc lengths.0 ∙ ap (length {A = StackKind}) same, ap suc lengths.1 ∙ ap (length {A = StackKind}) same)

abbrev high_then : Option ℕ → (ℕ → Option ℕ) → Option ℕ
high_then o f = elim o as (λ (_ : Option ℕ). Option ℕ) [ None ↦ None | Some h ↦ f h ]

-- the heights after parts one after another
abbrev pub heights : Trees → ℕ → Option ℕ
heights [] h = Some h
heights (part ∷ parts) h = high_then (height_after part h) (λ k. heights parts k)

height-sequence : (parts : Trees) (h : ℕ) → height_after (in_sequence parts) h ≡ heights parts h
height-sequence [] h = refl
height-sequence (part ∷ parts) h =
    then-agree (height_after part h) (height_after (in_sequence parts)) (heights parts) (height-sequence parts)

heights-append : (a b : Trees) (h : ℕ) → heights (a ++ b) h ≡ high_then (heights a h) (heights b)
heights-append [] b h = refl
heights-append (part ∷ a) b h =
    then-agree (height_after part h) (heights (a ++ b)) (λ k. high_then (heights a k) (heights b))
    (heights-append a b)
    ∙ sym (then-assoc (height_after part h) (heights a) (heights b))

-- whether the calls of code are right
abbrev pub op_right : Core → Operation → Bool
op_right core o = is_right_call core o.op

abbrev pub part_right : Core → Tree → Bool
part_right core t = list_all (op_right core) (steps_of t)

abbrev pub calls_right : Core → Trees → Bool
calls_right core code = list_all (part_right core) code

right-sequence : (core : Core) (parts : Trees) → part_right core (in_sequence parts) ≡ calls_right core parts
right-sequence core [] = refl
right-sequence core (part ∷ parts) =
    list_all-append (op_right core) (steps_of part) (steps_of (in_sequence parts))
    ∙ ap (λ b. part_right core part && b) (right-sequence core parts)

module _ (core : Core) (m : Method) where
  -- ---- core code

  -- parts one after another
  abbrev pub after_all : Trees → List StackKind → Kinds
  after_all [] stack = Some stack
  after_all (part ∷ parts) stack = and_then (kinds_after core m part stack) (λ between. after_all parts between)

  after-in_sequence : (parts : Trees) (stack : List StackKind) →
      kinds_after core m (in_sequence parts) stack ≡ after_all parts stack
  after-in_sequence [] stack = refl
  after-in_sequence (part ∷ parts) stack =
      then-agree (kinds_after core m part stack) (kinds_after core m (in_sequence parts)) (after_all parts)
      (after-in_sequence parts)

  after-append : (a b : Trees) (stack : List StackKind) →
      after_all (a ++ b) stack ≡ and_then (after_all a stack) (after_all b)
  after-append [] b stack = refl
  after-append (part ∷ a) b stack =
      then-agree (kinds_after core m part stack) (after_all (a ++ b))
      (λ s. and_then (after_all a s) (after_all b)) (after-append a b)
      ∙ sym (then-assoc (kinds_after core m part stack) (after_all a) (after_all b))

  -- the code makes the second stack of the first, also of their heights, and its calls are right
  pub record TreesRun (code : Trees) (before after : List StackKind) : Type 0 where
    pub runs : after_all code before ≡ Some after
    pub high : heights code (length before) ≡ Some (length after)
    pub calls : calls_right core code ≡ true

  pub whole : {code : Trees} {s t : List StackKind} → TreesRun code s t →
      kinds_after core m (in_sequence code) s ≡ Some t
  whole {code} {s} r = after-in_sequence code s ∙ r.runs

  pub whole_high : {code : Trees} {s t : List StackKind} → TreesRun code s t →
      height_after (in_sequence code) (length s) ≡ Some (length t)
  whole_high {code} {s} r = height-sequence code (length s) ∙ r.high

  pub whole_calls : {code : Trees} {s t : List StackKind} → TreesRun code s t →
      part_right core (in_sequence code) ≡ true
  whole_calls {code} r = right-sequence core code ∙ r.calls

  pub no_trees : (s : List StackKind) → TreesRun [] s s
  no_trees s = record { runs = refl; high = refl; calls = refl }

  pub trees_followed : (a b : Trees) {s t u : List StackKind} → TreesRun a s t → TreesRun b t u →
      TreesRun (a ++ b) s u
  trees_followed a b {s} x y =
      record {
        runs = after-append a b s ∙ ap (λ (o : Kinds). and_then o (after_all b)) x.runs ∙ y.runs;
        high =
            heights-append a b (length s) ∙ ap (λ (o : Option ℕ). high_then o (heights b)) x.high ∙ y.high;
        calls = list_all-append (part_right core) a b
            ∙ and_from (calls_right core a) (calls_right core b) x.calls y.calls;
      }

  -- a part alone
  part-runs : (part : Tree) {s t : List StackKind} → kinds_after core m part s ≡ Some t →
      height_after part (length s) ≡ Some (length t) → part_right core part ≡ true → TreesRun (part ∷ []) s t
  part-runs part e f g =
      record {
        runs = ap (λ (k : Kinds). and_then k (λ between. Some between)) e;
        high = ap (λ (h : Option ℕ). high_then h (λ k. Some k)) f;
        calls = and_from (part_right core part) true g refl;
      }

  -- an operation, which takes values from the top and leaves others
  pub tree_once : (place : Place) (o : CoreOp) (values made rest : List StackKind) → length values ≡ pops o →
      length made ≡ pushes o → is_right_call core o ≡ true →
      kinds_after_op core m o (values ++ rest) ≡ Some (made ++ rest) →
      TreesRun (one place o) (values ++ rest) (made ++ rest)
  tree_once place o values made rest p q right e =
      part-runs (Op (record { 0 = 0 }) place o) e (moved values made rest (pops o) (pushes o) p q)
      (and_from (is_right_call core o) true right refl)

  pub trees_chosen : (a b : Trees) {s t u v : List StackKind} → TreesRun a s t → TreesRun b s u →
      joined_stack t u ≡ Some v → TreesRun (fork a b) s v
  trees_chosen a b {s} {t} {u} {v} x y e =
      let lengths = same_heights t u v e in
      part-runs (Choice (in_sequence a) (in_sequence b))
      (ap (λ (o : Kinds). and_then o (λ l. and_then (kinds_after core m (in_sequence b) s) (λ r. joined_stack l r)))
      (whole x)
      ∙ ap (λ (o : Kinds). and_then o (λ r. joined_stack t r)) (whole y) ∙ e)
      (ap (λ o. same_height o (height_after (in_sequence b) (length s))) (whole_high x)
      ∙ ap (same_height (Some (length t))) (whole_high y)
      ∙ ap (λ test. cond test (Some (length t)) None)
      (eq-eqb (length t) (length u) (lengths.0 ∙ sym lengths.1))
      ∙ ap (λ (h : ℕ). Some h) lengths.0)
      (list_all-append (op_right core) (steps_of (in_sequence a)) (steps_of (in_sequence b))
      ∙ and_from (part_right core (in_sequence a)) (part_right core (in_sequence b)) (whole_calls x) (whole_calls y))

  pub trees_looped : (a : Trees) → TreesRun a [] [] → TreesRun (loop_of a) [] []
  trees_looped a x =
      part-runs (Loop (in_sequence a))
      (ap (λ (o : Kinds). and_then o (λ after. where_true (same_stack [] after) [])) (whole x))
      (ap (same_height (Some 0)) (whole_high x)) (whole_calls x)

  pub trees_locked : (kind : LockKind) (place : Place) (lock : StackKind) (a : Trees) → TreesRun a [] [] →
      TreesRun (Sync (lock_at kind place) (in_sequence a) ∷ []) (lock ∷ []) []
  trees_locked kind place lock a x =
      part-runs (Sync (lock_at kind place) (in_sequence a)) (whole x) (whole_high x) (whole_calls x)

  -- ---- values of expressions

  pub record Runs (code : Code) (before after : List StackKind) : Type 0 where
    pub steady : is_steady (in_order code) ≡ true
    pub own : TreesRun (plain_code (in_order code)) before after

  pub nothing : (s : List StackKind) → Runs [] s s
  nothing s = record { steady = refl; own = no_trees s }

  pub followed : {a b : Code} {s t u : List StackKind} → Runs a s t → Runs b t u → Runs (a ++ b) s u
  followed {a} {b} {s} {t} {u} x y =
      record {
        steady = steady-append a b x.steady y.steady;
        own = subst (λ (c : Trees). TreesRun c s u) (sym (plain-append a b))
            (trees_followed (plain_code (in_order a)) (plain_code (in_order b)) x.own y.own);
      }

  pub in_turn_3 : {a b c : Code} {s t u v : List StackKind} → Runs a s t → Runs b t u → Runs c u v →
      Runs (a ++ b ++ c) s v
  in_turn_3 x y z = followed (followed x y) z

  pub in_turn_4 : {a b c d : Code} {s t u v w : List StackKind} → Runs a s t → Runs b t u → Runs c u v → Runs d v w →
      Runs (a ++ b ++ c ++ d) s w
  in_turn_4 x y z w = followed (in_turn_3 x y z) w

  pub in_turn_5 : {a b c d e : Code} {s t u v w x : List StackKind} → Runs a s t → Runs b t u → Runs c u v →
      Runs d v w → Runs e w x → Runs (a ++ b ++ c ++ d ++ e) s x
  in_turn_5 p q r y z = followed (in_turn_4 p q r y) z

  pub in_turn_6 : {a b c d e f : Code} {s t u v w x y : List StackKind} → Runs a s t → Runs b t u → Runs c u v →
      Runs d v w → Runs e w x → Runs f x y → Runs (a ++ b ++ c ++ d ++ e ++ f) s y
  in_turn_6 p q r o n z = followed (in_turn_5 p q r o n) z

  pub in_turn_7 : {a b c d e f g : Code} {s t u v w x y z : List StackKind} → Runs a s t → Runs b t u → Runs c u v →
      Runs d v w → Runs e w x → Runs f x y → Runs g y z → Runs (a ++ b ++ c ++ d ++ e ++ f ++ g) s z
  in_turn_7 p q r o n l k = followed (in_turn_6 p q r o n l) k

  -- the first two together
  pub grouped : (a b c : Code) {s t : List StackKind} → Runs (a ++ (b ++ c)) s t → Runs (a ++ b ++ c) s t
  grouped a b c {s} {t} x = subst (λ code. Runs code s t) (sym (append_assoc a b c)) x

  -- an operation behind which code goes on, and whose call is right
  abbrev pub is_plain_op : CoreOp → Bool
  is_plain_op o = is_same Normal (op_end o) && is_right_call core o

  pub once : (place : Place) (o : CoreOp) (values made rest : List StackKind) → length values ≡ pops o →
      length made ≡ pushes o → is_plain_op o ≡ true →
      kinds_after_op core m o (values ++ rest) ≡ Some (made ++ rest) →
      Runs (op_at place o) (values ++ rest) (made ++ rest)
  once place o values made rest p q right e =
      let both = and_parts (is_same Normal (op_end o)) (is_right_call core o) right in
      record {
        steady = and_from (is_same Normal (op_end o)) true both.0 refl;
        own = tree_once place o values made rest p q both.1 e;
      }

  pub chosen : {a b : Code} {s t u v : List StackKind} → Runs a s t → Runs b s u → joined_stack t u ≡ Some v →
      Runs (choice a b) s v
  chosen {a} {b} x y e =
      record {
        steady = and_from (is_steady (in_order a) && is_steady (in_order b)) true
            (and_from (is_steady (in_order a)) (is_steady (in_order b)) x.steady y.steady) refl;
        own = trees_chosen (plain_code (in_order a)) (plain_code (in_order b)) x.own y.own e;
      }

  -- ---- values

  pub outside : (place : Place) (values stack : List StackKind) (n : ℕ) → length values ≡ n →
      Runs (op_at place (Outside n)) (values ++ stack) (Opaque ∷ stack)
  outside place values stack n many = once place (Outside n) values (Opaque ∷ []) stack many refl refl
      (popped Opaque values stack n many)

  -- what a value is when it comes to a kind
  pub record ConvertsTo (context : Context) (kind : Kind) (given : ValueKind) (s : StackKind)
      (rest : List StackKind) : Type 0
    where
      pub to : StackKind
      pub fitting : fits kind to ≡ true
      pub runs : Runs (converted context kind given) (s ∷ rest) (to ∷ rest)

  made_opaque : (context : Context) (s : StackKind) (rest : List StackKind) →
      Runs (op context (Outside 1)) (s ∷ rest) (Opaque ∷ rest)
  made_opaque context s rest = outside context.place (s ∷ []) rest 1 refl

  of_class : (context : Context) (c d : ClassId) (s : StackKind) (rest : List StackKind) (b : Bool) →
      same_class c d ≡ b → fits_class d s ≡ true →
      (to : StackKind) × (fits_class c to ≡ true) × Runs (cond (not b) (op context (Outside 1)) []) (s ∷ rest)
      (to ∷ rest)
  of_class context c d s rest true e h =
      (s, subst (λ x. fits_class x s ≡ true) (sym (class_equal c d e)) h, nothing (s ∷ rest))
  of_class context c d s rest false e h = (Opaque, refl, made_opaque context s rest)

  pub comes : (context : Context) (kind : Kind) (given : ValueKind) (s : StackKind) (rest : List StackKind) →
      Suits given s → ConvertsTo context kind given s rest
  comes context types.Plain given s rest h = record { to = s; fitting = refl; runs = nothing (s ∷ rest) }
  comes context types.Other given s rest h = record { to = s; fitting = refl; runs = nothing (s ∷ rest) }
  comes context (types.Declared c) value.Null s rest h =
      record { to = s; fitting = ap (fits_class c) h; runs = nothing (s ∷ rest) }
  comes context (types.Declared c) (Of types.Plain) s rest h =
      record { to = Opaque; fitting = refl; runs = made_opaque context s rest }
  comes context (types.Declared c) (Of types.Other) s rest h =
      record { to = Opaque; fitting = refl; runs = made_opaque context s rest }
  comes context (types.Declared c) (Of (types.Declared d)) s rest h =
      let all = of_class context c d s rest (same_class c d) refl h in
      record { to = all.0; fitting = all.1; runs = all.2 }
