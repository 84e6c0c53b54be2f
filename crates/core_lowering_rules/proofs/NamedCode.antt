-- Code names the same methods in its calls, whichever methods are analysed.
use Rattle.std.proofs.Common.{◌≡◌, ℕ, suc, Bool, true, false, cond, List, [], ◌∷◌, ◌++◌, refl, sym, ap, ◌∙◌}
use Rattle.std.proofs.Common.{append-nil, map, Option}
use Rattle.std.specs.List.{flat_map, list_all}
use Rattle.std.proofs.lemmas.List.Concat.{flat_map-append}
use Rattle.std.proofs.lemmas.List.Folds.{flat_map-map}
use Rattle.racer_base.specs.declared.ids.MethodId.{MethodId}
use Rattle.racer_base.specs.declared.ids.Kind.{Kind}
use Rattle.racer_base.specs.declared.ids.Place.{Place}
use Rattle.core_code.specs.declared.code.Op.TheVariants.{Call, Unread}
use Rattle.core_code.specs.declared.code.Reason.{Reason}
use Rattle.core_code.specs.Core.{Method}
use Rattle.core_code.specs.Tree.{Tree, Choice, Operation, steps_of, in_sequence}
use Rattle.core_code.specs.Recursion.{named_by, all_calls_in}
use Rattle.core_lowering_drafts.specs.Only.{Code, one, fork}
use Rattle.core_lowering_rules.specs.Context.{Context, Folder}
use Rattle.core_lowering_rules.specs.Methods.{Source, entered, method_code}
use Rattle.core_lowering_rules.specs.Programs.{method_cores, statuses_from}
use Rattle.core_lowering_drafts.specs.Sites.{numbered}
use Rattle.core_lowering_rules.proofs.FoundElements.{Each}
use Rattle.core_lowering_rules.proofs.NumberedTrees.{ops-numbered}
use Rattle.core_lowering_rules.proofs.LoweredFacts.{Tests, Grounded}
use Rattle.core_lowering_rules.proofs.DraftFacts.{CoreFact, fact_of}
use Rattle.core_lowering_rules.proofs.LoweredMethods.{in-holds}
use Rattle.core_lowering_rules.proofs.KeptPlaces.{PlacedSource}

-- the methods that code names, part by part
abbrev methods_named : Code → List MethodId
methods_named c = flat_map all_calls_in c

abbrev methods_named_at : Operation → List MethodId
methods_named_at o = named_by o.op

record Alike (c d : Code) : Type 0 where
  same : methods_named c ≡ methods_named d

-- ---- parts of code

both : (a b c d : Code) → Alike a c → Alike b d → Alike (a ++ b) (c ++ d)
both a b c d h k =
    record {
      same =
          flat_map-append all_calls_in a b
          ∙ ap (λ (front : List MethodId). front ++ methods_named b) h.same
          ∙ ap (λ (back : List MethodId). methods_named c ++ back) k.same
          ∙ sym (flat_map-append all_calls_in c d);
    }

in_sequence-named : (c : Code) → all_calls_in (in_sequence c) ≡ methods_named c
in_sequence-named [] = refl
in_sequence-named (t ∷ ts) =
    flat_map-append methods_named_at (steps_of t) (steps_of (in_sequence ts))
    ∙ ap (λ (back : List MethodId). all_calls_in t ++ back) (in_sequence-named ts)

choice-named : (a b : Code) → methods_named (fork a b) ≡ methods_named a ++ methods_named b
choice-named a b =
    append-nil (all_calls_in (Choice (in_sequence a) (in_sequence b)))
    ∙ flat_map-append methods_named_at (steps_of (in_sequence a)) (steps_of (in_sequence b))
    ∙ ap (λ (front : List MethodId). front ++ all_calls_in (in_sequence b)) (in_sequence-named a)
    ∙ ap (λ (back : List MethodId). methods_named a ++ back) (in_sequence-named b)

choices : (a b c d : Code) → Alike a c → Alike b d → Alike (fork a b) (fork c d)
choices a b c d h k =
    record {
      same =
          choice-named a b
          ∙ ap (λ (front : List MethodId). front ++ methods_named b) h.same
          ∙ ap (λ (back : List MethodId). methods_named c ++ back) k.same
          ∙ sym (choice-named c d);
    }

-- what stands in a loop or under a lock
inside : (a c : Code) → Alike a c → all_calls_in (in_sequence a) ++ [] ≡ all_calls_in (in_sequence c) ++ []
inside a c h =
    ap (λ (ms : List MethodId). ms ++ []) (in_sequence-named a ∙ h.same ∙ sym (in_sequence-named c))

call-named : (place : Place) (m : MethodId) (n : ℕ) (b : Bool) →
    methods_named (one place (cond b (Call m n) (Unread m n))) ≡ m ∷ []
call-named place m n true = refl
call-named place m n false = refl

abbrev any : Tests
any =
    record {
      is_place = λ p. true;
      is_class = λ c. true;
      is_method = λ m. true;
      is_kind = λ k. true;
      of_kind = λ c h. refl;
    }

abbrev likeness : CoreFact
likeness =
    record {
      tests = any;
      code =
          record {
            Holds = λ c d. Alike c d;
            nothing = record { same = refl };
            followed = both;
            chosen = choices;
            looped = λ a c h. record { same = inside a c h };
          };
      locked = λ k p a c there h. record { same = inside a c h };
      single = λ p o h k. record { same = refl };
      called = λ p m j n a b h k. record { same = call-named p m j a ∙ sym (call-named p m n b) };
      missing = λ p o h k quiet. record { same = sym (ap (λ (ms : List MethodId). (ms ++ []) ++ []) quiet) };
      added = λ p o h k quiet. record { same = ap (λ (ms : List MethodId). (ms ++ []) ++ []) quiet };
    }

-- ---- the rows of methods

pub any-place : (ps : List Place) → list_all (λ (p : Place). true) ps ≡ true
any-place [] = refl
any-place (p ∷ ps) = any-place ps

any-kind : (ks : List Kind) → Each (λ (k : Kind). true ≡ true) ks
any-kind [] = tt
any-kind (k ∷ ks) = (refl, any-kind ks)

grounded : (context : Context) → Grounded any context
grounded context =
    record {
      known =
          record {
            fields = λ f info e. refl;
            methods = λ m info e. refl;
            named = λ hidden name c e. refl;
            types = λ hidden t. refl;
          };
      here = refl;
      class = refl;
      given = refl;
      kinds = any-kind context.kinds;
    }

method-alike : (statuses : List (Option Reason)) (folder : Folder) (s : Source) → PlacedSource (λ (p : Place). true) s →
    Alike (method_code (record folder { statuses = statuses }) s) (method_code folder s)
method-alike statuses folder s placed =
    let made = in-holds (fact_of likeness) statuses (entered folder s) (grounded (entered folder s)) s placed s.body
    placed.body in
    made.fact

numbered-named : (t : Tree) (n : ℕ) → all_calls_in (numbered n t) ≡ all_calls_in t
numbered-named t n =
    sym (flat_map-map named_by (λ (o : Operation). o.op) (steps_of (numbered n t)))
    ∙ ap (flat_map named_by) (ops-numbered t n) ∙ flat_map-map named_by (λ (o : Operation). o.op) (steps_of t)

code-named : (c : Code) → all_calls_in (numbered 0 (in_sequence c)) ≡ methods_named c
code-named c = numbered-named (in_sequence c) 0 ∙ in_sequence-named c

pub rows-same : (declared : Folder) (first second : List (Option Reason)) (d : Folder) (f g : MethodId → Bool) (n : ℕ)
    (sources : List Source) → Each (PlacedSource (λ (p : Place). true)) sources →
    map (λ (m : Method). all_calls_in m.code)
    (method_cores (record declared { statuses = first }) sources (statuses_from d f n sources)) ≡
    map (λ (m : Method). all_calls_in m.code)
    (method_cores (record declared { statuses = second }) sources (statuses_from d g n sources))
rows-same declared first second d f g n [] all = refl
rows-same declared first second d f g n (s ∷ sources) all =
    let one : Folder = record declared { statuses = first } in
    let other : Folder = record declared { statuses = second } in
    let same = method-alike first other s all.0 in
    ap (λ (row : List MethodId).
    row ∷ map (λ (m : Method). all_calls_in m.code) (method_cores one sources (statuses_from d f (suc n) sources)))
    (code-named (method_code one s) ∙ same.same ∙ sym (code-named (method_code other s)))
    ∙ ap (λ (rows : List (List MethodId)). all_calls_in (numbered 0 (in_sequence (method_code other s))) ∷ rows)
    (rows-same declared first second d f g (suc n) sources all.1)
