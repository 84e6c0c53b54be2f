-- The method of a number, as the methods of a program are read.
use Rattle.std.proofs.Common.{◌≡◌, ℕ, length, List, Some, None, map, option_map, true, false, refl, sym, ap, ◌∙◌}
use Rattle.std.proofs.Common.{get_or}
use Rattle.std.specs.Prelude.{slice_get}
use Rattle.std.proofs.Math.Dec.{ltb}
use Rattle.std.proofs.lemmas.Bool.{ltb-true, ltb-false}
use Rattle.std.proofs.lemmas.Option.{slice_get_read, slice_get_past, slice_get-map}
use Rattle.core_code.specs.declared.parts.MethodCore.{MethodCore}
use Rattle.core_code.specs.Core.{Method, method_of}

module _ (ms : List MethodCore) (methods : List Method) (all : map method_of ms ≡ methods) (i : ℕ) where
  seen : slice_get methods i ≡ option_map method_of (slice_get ms i)
  seen = ap (λ (l : List Method). slice_get l i) (sym all) ∙ slice_get-map method_of ms i

  pub there : (x : MethodCore) → true ≡ ltb i (length ms) → x ≡ get_or ms i x → slice_get methods i ≡ Some (method_of x)
  there x within at =
      seen ∙ ap (option_map method_of)
      (slice_get_read ms (length ms) i x refl (ltb-true i (length ms) (sym within)) at)

  pub past : false ≡ ltb i (length ms) → slice_get methods i ≡ None
  past over = seen ∙ ap (option_map method_of) (slice_get_past ms i (ltb-false i (length ms) (sym over)))
