-- No public contract rests on this: small programs, lowered by hand, on which the definitions are tried.
use Rattle.std.specs.Prelude.{ℕ, suc, Bool, true, false, List, [], ◌∷◌, None, Some, codes, map}
use Rattle.racer_base.specs.declared.ids.Kind.{Kind}
use Rattle.racer_base.specs.declared.ids.Kind.TheVariants.{Plain, Declared, Other}
use Rattle.access_paths.specs.declared.path.Path.{Path}
use Rattle.access_paths.specs.declared.path.Root.TheVariants.{This}
use Rattle.core_code.specs.declared.code.Op.{Op as CoreOp}
use Rattle.core_code.specs.declared.code.Op.TheVariants.{Push, PushPrim, Drop, Get, Put, Outside, Call, Unread, Ret}
use Rattle.core_code.specs.declared.code.Op.TheVariants.{Throw}
use Rattle.core_code.specs.declared.code.Reason.TheVariants.{Recursive}
use Rattle.core_code.specs.declared.parts.FieldCore.{FieldCore}
use Rattle.core_code.specs.Tree.{Tree, Op, Skip, Seq, Choice, Loop, Sync, in_sequence}
use Rattle.core_code.specs.Core.{Core, Method}
use Rattle.core_code.specs.Pair.{at, own_sync}
use Rattle.core_semantics.specs.declared.answer.Turn.{Turn}
use Rattle.core_semantics.specs.Legs.{Leg}
use Rattle.core_semantics.specs.Examples.{class, field, method, var}
use Rattle.core_ways.specs.Marks.{Pair}

-- the same code with the sites 0, 1 and so on in reading order, from this one on; and the site behind it
abbrev numbered : ℕ → Tree → ℕ × Tree
numbered n (Op site place o) = (suc n, Op (record { 0 = n }) place o)
numbered n Skip = (n, Skip)
numbered n (Seq first rest) = let a = numbered n first in let b = numbered a.0 rest in (b.0, Seq a.1 b.1)
numbered n (Choice left right) = let a = numbered n left in let b = numbered a.0 right in (b.0, Choice a.1 b.1)
numbered n (Loop body) = let a = numbered n body in (a.0, Loop a.1)
numbered n (Sync lock body) = let a = numbered n body in (a.0, Sync lock a.1)

-- a program with the sites of its methods in order
abbrev pub with_sites : Core → Core
with_sites core =
    record core { methods = map (λ (m : Method). record m { code = (numbered 0 m.code).1 }) core.methods }

abbrev op : CoreOp → Tree
op o = Op (record { 0 = 0 }) (at 1 1) o

abbrev op_at : ℕ → ℕ → CoreOp → Tree
op_at line column o = Op (record { 0 = 0 }) (at line column) o

abbrev field_of : ℕ → Kind → FieldCore
field_of c kind = record { class = class c; name = []; kind = kind; is_static = false; recorded = true }

-- a method without parameters, entry or not, of class 1
abbrev method_of : Bool → List Tree → Method
method_of entry code =
    record {
      class = class 1;
      name = [];
      place = at 1 1;
      parameters = [];
      result = Plain;
      variables = Declared (class 1) ∷ [];
      is_static = false;
      entry = entry;
      main = false;
      status = None;
      code = in_sequence code;
    }

abbrev program_of : List FieldCore → List Method → Core
program_of fields methods =
    with_sites (record {
      files = codes "A.java" ∷ [];
      skipped = [];
      classes = record { name = codes "O"; place = at 1 1; checked = false }
          ∷ record { name = codes "A"; place = at 2 1; checked = true } ∷ [];
      fields = fields;
      methods = methods;
    })

abbrev this : Tree
this = op (Push (var 0))

abbrev returned : List Tree
returned = op PushPrim ∷ op Ret ∷ []

-- class O { Object name; }
-- class A {
--   O owner;
--   void rename() { this.owner.name = "x"; }
--   synchronized Object name() { return this.owner.name; }
-- }
abbrev pub card : Core
card =
    program_of (field_of 0 Other ∷ field_of 1 (Declared (class 0)) ∷ [])
    (method_of true
    (this ∷ op (Get (field 1)) ∷ op (Outside 0) ∷ op (Put (field 0)) ∷ op Drop ∷ returned)
    ∷ method_of true
    (this
    ∷ own_sync (at 1 1) (in_sequence (this ∷ op (Get (field 1)) ∷ op (Get (field 0)) ∷ op Ret ∷ [])) ∷ [])
    ∷ [])

-- class A {
--   int c;
--   void k() { m(); this.c = 1; }
--   void m() { m(); }
-- }
abbrev pub circle : Core
circle =
    program_of (field_of 1 Plain ∷ [])
    (method_of true
    (this ∷ op_at 6 14 (Unread (method 1) 1) ∷ op Drop ∷ this ∷ op PushPrim ∷ op_at 6 24 (Put (field 0)) ∷ op Drop
    ∷ returned)
    ∷ record (method_of false (this ∷ op_at 4 4 (Unread (method 1) 1) ∷ op Drop ∷ returned)) {
      status = Some Recursive;
    } ∷ [])

abbrev twice : ℕ → List Tree
twice m =
    this ∷ op (Call (method m) 1) ∷ op Drop ∷ this ∷ op (Call (method m) 1) ∷ op Drop ∷ returned

-- class A {
--   int c;
--   void go() { m1(); this.c = 1; }
--   private void m1() { m2(); m2(); }
--   private void m2() { m3(); m3(); }
--   private void m3() { }
--   void all() { while (t) { go(); } }
-- }
abbrev pub doubling : Core
doubling =
    program_of (field_of 1 Plain ∷ [])
    (method_of true
    (this ∷ op (Call (method 1) 1) ∷ op Drop ∷ this ∷ op PushPrim ∷ op (Put (field 0)) ∷ op Drop ∷ returned)
    ∷ method_of false (twice 2) ∷ method_of false (twice 3) ∷ method_of false returned
    ∷ method_of true
    (Loop (in_sequence (this ∷ op (Call (method 0) 1) ∷ op Drop ∷ [])) ∷ returned) ∷ [])

-- class A {
--   int c;
--   int k;
--   void choose() { if (t) { if (u) return; } else { return; } synchronized (this) { if (t) return; else return; } }
--   void write() {
--     while (t) { this.c = 1; }
--     if (t) { this.c = 2; } else { synchronized (this) { if (u) this.c; } }
--     synchronized (this) { choose(); }
--     this.k = 3;
--   }
-- }
abbrev pub turning : Core
turning =
    program_of (field_of 1 Plain ∷ field_of 1 Plain ∷ [])
    (method_of true
    (Choice (Choice (in_sequence returned) Skip) (in_sequence returned) ∷ this
    ∷ own_sync (at 1 1) (Choice (in_sequence returned) (in_sequence returned)) ∷ [])
    ∷ method_of true
    (Loop (in_sequence (this ∷ op PushPrim ∷ op (Put (field 0)) ∷ op Drop ∷ []))
    ∷ Choice (in_sequence (this ∷ op PushPrim ∷ op (Put (field 0)) ∷ op Drop ∷ []))
    (in_sequence
    (this ∷ own_sync (at 1 1) (Choice (in_sequence (this ∷ op (Get (field 0)) ∷ op Drop ∷ [])) Skip) ∷ []))
    ∷ this ∷ own_sync (at 1 1) (in_sequence (this ∷ op (Call (method 0) 1) ∷ op Drop ∷ [])) ∷ this ∷ op PushPrim
    ∷ op (Put (field 1)) ∷ op Drop ∷ returned)
    ∷ [])

-- class A {
--   int c;
--   A n;
--   void m() { this.n = this; this.n.c = 1; }
-- }
abbrev pub storing : Core
storing =
    program_of (field_of 1 Plain ∷ field_of 1 (Declared (class 1)) ∷ [])
    (method_of true
    (this ∷ this ∷ op (Put (field 1)) ∷ op Drop ∷ this ∷ op (Get (field 1)) ∷ op PushPrim ∷ op (Put (field 0))
    ∷ op Drop ∷ returned)
    ∷ [])

-- class A {
--   int c;
--   void write() { if (t) { throw x; } find(); this.c = 1; }
--   private void find() { while (t) { if (u) return; } throw x; }
--   void late() { fail(); this.c = 2; }
--   private void fail() { throw x; }
-- }
abbrev pub throwing : Core
throwing =
    program_of (field_of 1 Plain ∷ [])
    (method_of true
    (Choice (op Throw) Skip ∷ this ∷ op (Call (method 1) 1) ∷ op Drop ∷ this ∷ op PushPrim ∷ op (Put (field 0))
    ∷ op Drop ∷ returned)
    ∷ method_of false (Loop (Choice (in_sequence returned) Skip) ∷ op Throw ∷ [])
    ∷ method_of true
    (this ∷ op (Call (method 3) 1) ∷ op Drop ∷ this ∷ op PushPrim ∷ op (Put (field 0)) ∷ op Drop ∷ returned)
    ∷ method_of false (op_at 7 25 Throw ∷ []) ∷ [])

-- records of two methods
abbrev pub pair_of : ℕ → ℕ → ℕ → ℕ → Pair
pair_of m1 i m2 j = record { m1 = method m1; i = i; m2 = method m2; j = j }

abbrev pub leg_of : ℕ → List Turn → ℕ → Leg
leg_of t turns steps = record { thread = t; turns = turns; steps = steps }

-- `this` and fields
abbrev pub this_path : List ℕ → Path
this_path fields = record { root = This; fields = map field fields }
