-- No public contract rests on this: a small program, lowered by hand, on which the definitions are tried:
--     class Pair {
--       int a;
--       int b;
--       void put() { this.a = 1; }
--       void both() { synchronized (this) { this.a = 2; this.b = 3; } }
--     }
use Rattle.std.specs.Prelude.{ℕ, true, false, [], ◌∷◌, Option, None, codes, map}
use Rattle.std.specs.List.{range_with_len}
use Rattle.racer_base.specs.declared.ids.Kind.TheVariants.{Plain, Declared}
use Rattle.racer_base.specs.declared.ids.Place.{Place}
use Rattle.core_code.specs.declared.code.Op.{Op as CoreOp}
use Rattle.core_code.specs.declared.code.Op.TheVariants.{Push, PushPrim, Drop, Put, Call, Unread, Ret, Throw}
use Rattle.core_code.specs.declared.code.Reason.{Reason}
use Rattle.core_code.specs.declared.code.LockKind.TheVariants.{Own}
use Rattle.core_code.specs.declared.parts.ClassCore.{ClassCore}
use Rattle.core_code.specs.declared.parts.FieldCore.{FieldCore}
use Rattle.core_code.specs.Tree.{Tree, Op, Sync, in_sequence}
use Rattle.core_code.specs.Core.{Core, Method}

abbrev pub at : ℕ → ℕ → Place
at line column = record { file = record { 0 = 0 }; line = line; column = column }

abbrev pub step : ℕ → Place → CoreOp → Tree
step site place op = Op (record { 0 = site }) place op

-- a body under the monitor of an object
abbrev pub own_sync : Place → Tree → Tree
own_sync place body = Sync (record { place = place; kind = Own }) body

abbrev pub this : CoreOp
this = Push (record { 0 = 0 })

abbrev pub put_at : ℕ → CoreOp
put_at f = Put (record { 0 = f })

abbrev pub class_pair : ClassCore
class_pair = record { name = codes "Pair"; place = at 1 7; checked = true }

abbrev pub field_a : FieldCore
field_a = record { class = record { 0 = 0 }; name = codes "a"; kind = Plain; is_static = false; recorded = true }

abbrev pub field_b : FieldCore
field_b = record { class = record { 0 = 0 }; name = codes "b"; kind = Plain; is_static = false; recorded = true }

abbrev pub method_new : Method
method_new =
    record {
      class = record { 0 = 0 };
      name = codes "<new>";
      place = at 1 7;
      parameters = [];
      result = Declared (record { 0 = 0 });
      variables = Declared (record { 0 = 0 }) ∷ [];
      is_static = false;
      entry = false;
      main = false;
      status = None;
      code = in_sequence (step 0 (at 1 7) this ∷ step 1 (at 1 7) Ret ∷ []);
    }

abbrev pub method_put : Method
method_put =
    record {
      class = record { 0 = 0 };
      name = codes "put";
      place = at 4 8;
      parameters = [];
      result = Plain;
      variables = Declared (record { 0 = 0 }) ∷ [];
      is_static = false;
      entry = true;
      main = false;
      status = None;
      code =
          in_sequence
          (step 0 (at 4 8) this ∷ step 1 (at 4 8) PushPrim ∷ step 2 (at 4 21) (put_at 0) ∷ step 3 (at 4 8) Drop
          ∷ step 4 (at 4 8) PushPrim ∷ step 5 (at 4 8) Ret ∷ []);
    }

abbrev pub method_both : Method
method_both =
    record {
      class = record { 0 = 0 };
      name = codes "both";
      place = at 5 8;
      parameters = [];
      result = Plain;
      variables = Declared (record { 0 = 0 }) ∷ [];
      is_static = false;
      entry = true;
      main = false;
      status = None;
      code =
          in_sequence
          (step 0 (at 5 8) this
          ∷ own_sync (at 5 17)
          (in_sequence
          (step 1 (at 5 8) this ∷ step 2 (at 5 8) PushPrim ∷ step 3 (at 5 44) (put_at 0) ∷ step 4 (at 5 8) Drop
          ∷ step 5 (at 5 8) this ∷ step 6 (at 5 8) PushPrim ∷ step 7 (at 5 56) (put_at 1) ∷ step 8 (at 5 8) Drop ∷ []))
          ∷ step 9 (at 5 8) PushPrim ∷ step 10 (at 5 8) Ret ∷ []);
    }

-- the first method with a lock that stands in another file
abbrev pub lock_elsewhere : Method
lock_elsewhere =
    record method_new {
      code = own_sync (record { file = record { 0 = 1 }; line = 1; column = 1 })
          (step 0 (at 1 7) this);
    }

abbrev pub pair : Core
pair =
    record {
      files = codes "Pair.java" ∷ [];
      skipped = [];
      classes = class_pair ∷ [];
      fields = field_a ∷ field_b ∷ [];
      methods = method_new ∷ method_put ∷ method_both ∷ [];
    }

-- the same with this method alone
abbrev pub with_method : Method → Core
with_method m = record pair { methods = m ∷ [] }

-- a field, in the class of this number
abbrev pub in_class : ℕ → FieldCore → FieldCore
in_class c field = record field { class = record { 0 = c } }

-- a call of the second method on `this`
abbrev pub call_put : CoreOp
call_put = Call (record { 0 = 1 }) 1

abbrev pub unread_put : CoreOp
unread_put = Unread (record { 0 = 1 }) 1

-- the class, its last method making this call alone, its second method having this status
abbrev pub after_call : CoreOp → Option Reason → Core
after_call call status =
    record pair {
      methods =
          method_new ∷ record method_put { status = status }
          ∷ record method_both {
            code =
                in_sequence
                (step 0 (at 5 8) this ∷ step 1 (at 5 8) call ∷ step 2 (at 5 8) PushPrim ∷ step 3 (at 5 8) Ret ∷ []);
          } ∷ [];
    }

-- a method with so many parameters that has this status
abbrev pub with_parameters : ℕ → Option Reason → Method
with_parameters count status = record method_put
    { parameters = map (λ k. Plain) (range_with_len 0 count); status = status }

-- a return and a throw alone
abbrev pub returned : Tree
returned = step 0 (at 1 1) Ret

abbrev pub thrown : Tree
thrown = step 0 (at 1 1) Throw
