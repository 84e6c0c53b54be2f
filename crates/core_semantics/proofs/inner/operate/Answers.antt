use Rattle.std.proofs.Common.{refl, sym, ap, slice_index_or}
use Rattle.core_semantics.specs.declared.object.Object.TheVariants.{Start}
use Rattle.core_semantics.specs.declared.object.StartRoot.TheVariants.{Class}
use Rattle.core_semantics.specs.declared.object.Value.TheVariants.{Null, Plain, Opaque, Object as Ref}
use Rattle.core_semantics.specs.Objects.{root_path}
use Rattle.core_semantics.specs.State.{Frame}
use Rattle.core_semantics.specs.Steps.{Goes, replaced, top, with_var}
use Rattle.core_semantics.specs.View.{behind, frame_of, store_of}
use Rattle.core_semantics.proofs.InnerSteps.{framed}
use Rattle.core_semantics.proofs.inner.operate.Goals as goal

pub returns-in-Push : goal.returns-in-Push
returns-in-Push c =
    let frame = c.args.frame.now in
    let value = slice_index_or (frame_of frame).vars c.in-Push.v.0 Null in
    rw c.in-Push.is
    (framed c.args.store.now frame c.replace_by.new.self (replaced (behind frame) 0 value) c.replace_by.result
    (c.replace_by.ensures value c.var-value.ensures))

pub returns-in-Dup : goal.returns-in-Dup
returns-in-Dup c =
    let frame = c.args.frame.now in
    let value = top (frame_of frame) in
    rw c.in-Dup.is
    (framed c.args.store.now frame c.replace_by-in-Dup.new.self (replaced (behind frame) 0 value)
    c.replace_by-in-Dup.result (c.replace_by-in-Dup.ensures value c.slot-value.ensures))

pub returns-in-PushClass : goal.returns-in-PushClass
returns-in-PushClass c =
    let frame = c.args.frame.now in
    rw c.in-PushClass.is
    (framed c.args.store.now frame c.replace_by-in-PushClass.new.self
    (replaced (behind frame) 0 (Ref (Start (root_path (Class c.in-PushClass.class)))))
    c.replace_by-in-PushClass.result
    (c.replace_by-in-PushClass.ensures (Ref (Start (root_path (Class c.in-PushClass.class)))) c.class_object.ensures))

pub returns-in-PushPrim : goal.returns-in-PushPrim
returns-in-PushPrim c =
    let frame = c.args.frame.now in
    rw c.in-PushPrim.is
    (framed c.args.store.now frame c.replace_by-in-PushPrim.new.self
    (replaced (behind frame) 0 Plain) c.replace_by-in-PushPrim.result
    (c.replace_by-in-PushPrim.ensures Plain refl))

pub returns-in-PushNull : goal.returns-in-PushNull
returns-in-PushNull c =
    let frame = c.args.frame.now in
    rw c.in-PushNull.is
    (framed c.args.store.now frame c.replace_by-in-PushNull.new.self
    (replaced (behind frame) 0 Null) c.replace_by-in-PushNull.result
    (c.replace_by-in-PushNull.ensures Null refl))

pub returns-in-Prim : goal.returns-in-Prim
returns-in-Prim c =
    let frame = c.args.frame.now in
    rw c.in-Prim.is
    (framed c.args.store.now frame c.replace_by-in-Prim.new.self
    (replaced (behind frame) c.in-Prim.count Plain) c.replace_by-in-Prim.result
    (c.replace_by-in-Prim.ensures Plain refl))

pub returns-in-Outside : goal.returns-in-Outside
returns-in-Outside c =
    let frame = c.args.frame.now in
    rw c.in-Outside.is
    (framed c.args.store.now frame c.replace_by-in-Outside.new.self
    (replaced (behind frame) c.in-Outside.count Opaque) c.replace_by-in-Outside.result
    (c.replace_by-in-Outside.ensures Opaque refl))

pub returns-in-Set : goal.returns-in-Set
returns-in-Set c =
    let frame = c.args.frame.now in
    rw c.in-Set.is
    (framed c.args.store.now frame c.set.new.frame (with_var (behind frame) c.in-Set.v) c.set.result
    c.set.ensures)

pub returns-in-Get : goal.returns-in-Get
returns-in-Get c = rw c.in-Get.is c.get.ensures

pub returns-in-Put : goal.returns-in-Put
returns-in-Put c = rw c.in-Put.is c.put.ensures

pub returns-in-New : goal.returns-in-New
returns-in-New c = rw c.in-New.is c.make.ensures

pub returns-in-Drop : goal.returns-in-Drop
returns-in-Drop c =
    rw c.in-Drop.is (ap (λ (frame : Frame). Goes (record { store = store_of c.args.store.now; frame = frame }))
    (sym c.cut.ensures))
