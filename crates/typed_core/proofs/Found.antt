-- What is found of a method, and of methods one after another.
use Rattle.std.proofs.Common.{◌≡◌, ℕ, zero, suc, ◌+◌, ◌<◌, ◌≤◌, Bool, true, ◌||◌, List, [], ◌∷◌, ◌++◌, Option, None, Some}
use Rattle.std.proofs.Common.{append-nil, append_assoc, drop, get_or, length, map, sym, ap, subst, ◌∙◌, arith}
use Rattle.std.specs.Prelude.{slice_get}
use Rattle.std.specs.List.{list_all, list_any}
use Rattle.std.proofs.lemmas.Bool.{and_parts}
use Rattle.std.proofs.lemmas.List.{at_drop_more, at_drop_all}
use Rattle.racer_base.proofs.Lists.{given_some}
use Rattle.core_code.specs.declared.parts.MethodCore.{MethodCore}
use Rattle.core_code.specs.Core.{Core, Method, method_of}
use Rattle.core_code.specs.Facts.{height_after, is_stack_enough}
use Rattle.core_code.specs.Program.{core}
use Rattle.typed_core.specs.declared.states.KindState.{KindState}
use Rattle.typed_core.specs.declared.context.CheckContext.{CheckContext}
use Rattle.typed_core.specs.declared.findings.Findings.{Findings}
use Rattle.typed_core.specs.declared.loops.Walk.{Walk}
use Rattle.typed_core.specs.Check.{doubts_of}
use Rattle.typed_core.specs.Reaching.{AreFound, IsEven, IsFound}
use Rattle.typed_core.specs.Resuming.{no_heads, resumed}
use Rattle.typed_core.specs.States.{start_of}
use Rattle.typed_core.specs.Walks.{SameHeads, IsWalked, found_in, heads_of}
use Rattle.typed_core.proofs.Heads.{sound-first}
use Rattle.typed_core.proofs.Resumed.{resumed-exact}
use Rattle.typed_core.proofs.Walking.{same_heads}

-- a walk from nothing on finds what may fail in the method
pub doubts-found : (context : CheckContext) (start : KindState) (end : Option KindState) (old new : Walk) →
    IsEven (method_of context.method.now) → old.next ≡ 0 → SameHeads (heads_of old) no_heads →
    old.doubts.items ≡ [] → start ≡ start_of (method_of context.method.now) →
    IsWalked (method_of context.method.now).code
    (found_in context (method_of context.method.now).code old.next (heads_of old) (Some start)) end old new →
    new.doubts.items ≡ doubts_of (core context.program.now) (method_of context.method.now)
doubts-found context start end old new even first none empty begins one =
    let program = core context.program.now in
    let method = method_of context.method.now in
    let height = given_some (height_after method.code 0) even in
    let same : found_in context method.code old.next (heads_of old) (Some start) ≡
    resumed program method method.code 0 no_heads (Some (start_of method)) =
    (λ i. resumed program method method.code (first i) (same_heads (heads_of old) no_heads none i) (Some (begins i))) in
    let exact = resumed-exact program method method.code 0 height.0 no_heads (start_of method) height.1
    (sound-first program method method.code 0 (start_of method)) in
    one.doubts ∙ (λ i. empty i ++ (same i).doubts) ∙ exact.0.doubts

-- ---- methods one after another
-- with what is found of the methods that are left, what was found is found of all
abbrev pub AreFoundYet : Core → List Method → List Method → List Findings → Type 0
AreFoundYet program rest all made =
    (later : List Findings) → AreFound program rest later → AreFound program all (made ++ later)

pub found-turn : (program : Core) (methods : List MethodCore) (all : List Method) (i : ℕ) (m : MethodCore)
    (made new : List Findings) (found : Findings) → i < length methods → m ≡ get_or methods i m →
    AreFoundYet program (map method_of (drop i methods)) all made → new ≡ made ++ found ∷ [] →
    ((method_of m).status ≡ None → IsFound program (method_of m) found) →
    AreFoundYet program (map method_of (drop (i + 1) methods)) all new
found-turn program methods all i m made new found within is before more one = λ later are.
    let whole : map method_of (drop i methods) ≡ method_of m ∷ map method_of (drop (i + 1) methods) =
    at_drop_more (λ (ms : List MethodCore). map method_of ms) methods i m within
    ∙ ap (λ (x : MethodCore). method_of x ∷ map method_of (drop (i + 1) methods)) (sym is) in
    let with_one : AreFound program (map method_of (drop i methods)) (found ∷ later) =
    subst (λ (ms : List Method). AreFound program ms (found ∷ later)) (sym whole) (one, are) in
    subst (AreFound program all)
    (sym (append_assoc made (found ∷ []) later) ∙ ap (λ (ms : List Findings). ms ++ later) (sym more))
    (before (found ∷ later) with_one)

pub found-end : (program : Core) (methods : List MethodCore) (all : List Method) (i : ℕ) (made : List Findings) →
    length methods ≤ i → AreFoundYet program (map method_of (drop i methods)) all made → AreFound program all made
found-end program methods all i made past before =
    subst (AreFound program all) (append-nil made)
    (before [] (subst (λ (ms : List Method). AreFound program ms [])
    (sym (at_drop_all (λ (ms : List MethodCore). map method_of ms) methods i past)) tt))

-- each of the methods is even, where all are
pub even-at : (methods : List MethodCore) (i : ℕ) (m : MethodCore) →
    list_all is_stack_enough (map method_of methods) ≡ true → i < length methods → m ≡ get_or methods i m →
    IsEven (method_of m)
even-at [] i m all within is = absurd (let z : i < 0 = within in omega arith)
even-at (x ∷ methods) zero m all within is =
    subst (λ (y : MethodCore). IsEven (method_of y)) (sym is)
    (and_parts (is_stack_enough (method_of x)) (list_all is_stack_enough (map method_of methods)) all).0
even-at (x ∷ methods) (suc i) m all within is =
    even-at methods i m
    (and_parts (is_stack_enough (method_of x)) (list_all is_stack_enough (map method_of methods)) all).1
    (omega arith) is

pub method-at : (methods : List MethodCore) (i : ℕ) (m : MethodCore) → i < length methods → m ≡ get_or methods i m →
    slice_get (map method_of methods) i ≡ Some (method_of m)
method-at [] i m within is = absurd (let z : i < 0 = within in omega arith)
method-at (x ∷ methods) zero m within is = ap (λ (y : MethodCore). Some (method_of y)) (sym is)
method-at (x ∷ methods) (suc i) m within is = method-at methods i m (omega arith) is

pub any-turn : (test : Method → Bool) (methods : List MethodCore) (i : ℕ) (m : MethodCore) → i < length methods →
    m ≡ get_or methods i m →
    list_any test (map method_of (drop i methods)) ≡
    (test (method_of m) || list_any test (map method_of (drop (i + 1) methods)))
any-turn test methods i m within is =
    at_drop_more (λ (ms : List MethodCore). list_any test (map method_of ms)) methods i m within
    ∙ ap (λ (x : MethodCore). test (method_of x) || list_any test (map method_of (drop (i + 1) methods))) (sym is)
