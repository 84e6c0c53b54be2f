-- What numbering keeps, and that it counts.
use Rattle.std.proofs.Common.{◌≡◌, ℕ, ◌+◌, ◌-◌, Bool, true, false, cond, ◌&&◌, ◌||◌, [], ◌++◌, Option}
use Rattle.std.proofs.Common.{Some, None, List, length, refl, sym, ap, subst, ◌∙◌, nat_eq, nat_le}
use Rattle.std.specs.List.{list_all}
use Rattle.std.proofs.Math.Bool.{and-false}
use Rattle.std.proofs.lemmas.List.{length-map}
use Rattle.std.proofs.lemmas.Bool.{eq-eqb, and_from}
use Rattle.std.proofs.lemmas.List.Folds.{list_all-map}
use Rattle.core_code.specs.declared.code.Op.{Op as CoreOp}
use Rattle.core_code.specs.declared.code.Op.TheVariants.{Ret}
use Rattle.core_code.specs.Tree.{Tree, Op, Skip, Seq, Choice, Loop, Sync, Operation, steps_of, can_end}
use Rattle.core_code.specs.Tree.{in_sequence}
use Rattle.core_code.specs.Core.{Core}
use Rattle.core_code.specs.Facts.{sites_of, counts_from, height_after, same_height}
use Rattle.core_code.specs.CallFacts.{is_right_call}
use Rattle.core_code.proofs.Sites.{sites_go_on, sites_of-then}
use Rattle.core_lowering_drafts.specs.Drafts.{in_order}
use Rattle.core_lowering_drafts.specs.Only.{Code as Trees, one, Last, code_in, all_ends}
use Rattle.core_lowering_drafts.specs.Plain.{plain_code}
use Rattle.core_lowering_drafts.proofs.Sequences.{onto-append}
use Rattle.core_lowering_drafts.proofs.Steady.{is_steady, steady-met}
use Rattle.racer_base.specs.declared.ids.Kind.TheVariants as types
use Rattle.core_lowering_rules.specs.Context.{Context, Guard, Result, Itself, Nothing, Value, Code, op, made}
use Rattle.core_lowering_rules.specs.Statements.{returned, returned_nothing}
use Rattle.core_lowering_rules.specs.Methods.{ended}
use Rattle.core_lowering_drafts.specs.Sites.{numbered}
use Rattle.core_lowering_rules.proofs.NumberedTrees.{SiteFact, same-numbered, ops-numbered}
use Rattle.core_lowering_rules.proofs.Runs.{part_right, then-agree}
use Rattle.core_lowering_rules.proofs.DraftFacts.{can_end-append}
use Rattle.core_lowering_rules.proofs.LoweredStatements.{sent_by}

-- ---- heights and calls

abbrev same_heights : SiteFact
same_heights =
    record {
      Same = λ a c. (h : ℕ) → height_after a h ≡ height_after c h;
      of_op = λ site other place o h. refl;
      of_skip = λ h. refl;
      of_seq = λ a b c d p q h.
          ap (λ (o : Option ℕ). elim o as (λ (_ : Option ℕ). Option ℕ) [ None ↦ None | Some k ↦ height_after b k ])
          (p h)
          ∙ then-agree (height_after c h) (height_after b) (height_after d) q;
      of_choice = λ a b c d p q h.
          ap (λ o. same_height o (height_after b h)) (p h) ∙ ap (same_height (height_after c h)) (q h);
      of_loop = λ a c p h. ap (same_height (Some h)) (p h);
      of_sync = λ lock a c p h. ap (λ (o : Option ℕ). cond (nat_le 1 h) o None) (p (h - 1));
    }

pub height-numbered : (t : Tree) (n h : ℕ) → height_after (numbered n t) h ≡ height_after t h
height-numbered t n h = same-numbered same_heights t n h

pub calls-numbered : (core : Core) (t : Tree) (n : ℕ) → part_right core (numbered n t) ≡ part_right core t
calls-numbered core t n =
    sym (list_all-map (is_right_call core) (λ (o : Operation). o.op) (steps_of (numbered n t)))
    ∙ ap (list_all (is_right_call core)) (ops-numbered t n)
    ∙ list_all-map (is_right_call core) (λ (o : Operation). o.op) (steps_of t)

-- ---- sites

steps-numbered : (t : Tree) (n : ℕ) → length (steps_of (numbered n t)) ≡ length (steps_of t)
steps-numbered t n =
    sym (length-map (steps_of (numbered n t)) (λ (o : Operation). o.op)) ∙ ap (length {A = CoreOp}) (ops-numbered t n)
    ∙ length-map (steps_of t) (λ (o : Operation). o.op)

sites-two : (first rest : Tree) (n : ℕ) → counts_from n (sites_of (numbered n first)) ≡ true →
    counts_from (n + length (steps_of first)) (sites_of (numbered (n + length (steps_of first)) rest)) ≡ true →
    counts_from n (sites_of (Seq (numbered n first) (numbered (n + length (steps_of first)) rest))) ≡ true
sites-two first rest n p q =
    let later = numbered (n + length (steps_of first)) rest in
    let many : length (sites_of (numbered n first)) ≡ length (steps_of first) =
    length-map (steps_of (numbered n first)) (λ (o : Operation). o.site) ∙ steps-numbered first n in
    ap (counts_from n) (sites_of-then (numbered n first) later)
    ∙ sites_go_on n (sites_of (numbered n first)) (sites_of later) p
    (ap (λ k. counts_from (n + k) (sites_of later)) many ∙ q)

pub sites-numbered : (t : Tree) (n : ℕ) → counts_from n (sites_of (numbered n t)) ≡ true
sites-numbered (Op site place o) n = and_from (nat_eq n n) true (eq-eqb n n refl) refl
sites-numbered Skip n = refl
sites-numbered (Seq first rest) n =
    sites-two first rest n (sites-numbered first n) (sites-numbered rest (n + length (steps_of first)))
sites-numbered (Choice left right) n =
    sites-two left right n (sites-numbered left n) (sites-numbered right (n + length (steps_of left)))
sites-numbered (Loop body) n = sites-numbered body n
sites-numbered (Sync place body) n = sites-numbered body n

-- ---- ends

abbrev same_ends : SiteFact
same_ends =
    record {
      Same = λ a c. can_end a ≡ can_end c;
      of_op = λ site other place o. refl;
      of_skip = refl;
      of_seq = λ a b c d p q. ap (λ x. x && can_end b) p ∙ ap (λ x. can_end c && x) q;
      of_choice = λ a b c d p q. ap (λ x. x || can_end b) p ∙ ap (λ x. can_end c || x) q;
      of_loop = λ a c p. refl;
      of_sync = λ lock a c p. p;
    }

-- what a return gives is a value
nothing-steady : (context : Context) (r : Result) → is_steady (in_order (returned_nothing context r)) ≡ true
nothing-steady context Itself = refl
nothing-steady context Nothing = refl
nothing-steady context (Value types.Plain) = refl
nothing-steady context (Value (types.Declared c)) = refl
nothing-steady context (Value types.Other) = refl

-- a value and a return, as core code
return-code : (context : Context) (a : Code) → is_steady (in_order a) ≡ true →
    made (a ++ op context Ret) ≡ plain_code (in_order a) ++ one context.place Ret
return-code context a steady =
    ap code_in
    (onto-append a (op context Ret) all_ends Last
    ∙ steady-met (in_order a) steady all_ends (one context.place Ret))

-- outside of each `finally` a return ends code
returned-ends : (context : Context) → context.guards ≡ [] →
    can_end (in_sequence (made (returned context None))) ≡ false
returned-ends context e =
    subst (λ (all : List Guard).
    can_end (in_sequence (made (returned_nothing context context.result ++ sent_by context all))) ≡ false) (sym e)
    (ap (λ (c : Trees). can_end (in_sequence c)) (return-code context (returned_nothing context context.result)
    (nothing-steady context context.result))
    ∙ can_end-append (plain_code (in_order (returned_nothing context context.result))) (one context.place Ret)
    ∙ and-false (can_end (in_sequence (plain_code (in_order (returned_nothing context context.result))))))

ends-by : (context : Context) → context.guards ≡ [] → (body : Trees) (b : Bool) → can_end (in_sequence body) ≡ b →
    can_end (in_sequence (cond b (body ++ made (returned context None)) body)) ≡ false
ends-by context none body true e =
    can_end-append body (made (returned context None))
    ∙ ap (λ x. can_end (in_sequence body) && x) (returned-ends context none) ∙ and-false (can_end (in_sequence body))
ends-by context none body false e = e

-- code with a return at its end does not end otherwise
pub ended-ends : (context : Context) → context.guards ≡ [] → (body : Trees) →
    can_end (numbered 0 (in_sequence (ended context body))) ≡ false
ended-ends context none body =
    same-numbered same_ends (in_sequence (ended context body)) 0
    ∙ ends-by context none body (can_end (in_sequence body)) refl
