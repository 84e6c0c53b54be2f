-- The method of a number, as the methods of a program are read.
use Rattle.std.proofs.Common.{◌≡◌, length, List, Some, None, map, option_map, true, false, refl, sym, ap, ◌∙◌, get_or}
use Rattle.std.specs.Prelude.{slice_get}
use Rattle.std.proofs.Math.Dec.{ltb}
use Rattle.std.proofs.lemmas.Bool.{ltb-true, ltb-false}
use Rattle.std.proofs.lemmas.Option.{slice_get_read, slice_get_past, slice_get-map}
use Rattle.racer_base.specs.declared.ids.MethodId.{MethodId}
use Rattle.core_code.specs.declared.parts.MethodCore.{MethodCore}
use Rattle.core_code.specs.Calls.{method_at}
use Rattle.core_code.specs.Core.{Core, Method, method_of}

module _ (core : Core) (ms : List MethodCore) (m : MethodId) (all : map method_of ms ≡ core.methods) where
  seen : method_at core m ≡ option_map method_of (slice_get ms m.0)
  seen = ap (λ (l : List Method). slice_get l m.0) (sym all) ∙ slice_get-map method_of ms m.0

  pub there : (x : MethodCore) → true ≡ ltb m.0 (length ms) → x ≡ get_or ms m.0 x
      → method_at core m ≡ Some (method_of x)
  there x within at =
      seen ∙ ap (option_map method_of)
      (slice_get_read ms (length ms) m.0 x refl (ltb-true m.0 (length ms) (sym within)) at)

  pub past : false ≡ ltb m.0 (length ms) → method_at core m ≡ None
  past over = seen ∙ ap (option_map method_of) (slice_get_past ms m.0 (ltb-false m.0 (length ms) (sym over)))
