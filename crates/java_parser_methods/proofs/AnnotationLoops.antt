-- A loop that reads annotations: what it has, and what it still reads.
use Rattle.std.proofs.Common.{◌≡◌, ℕ, suc, ◌+◌, ◌-◌, ◌≤◌, ◌<◌, List, [], ◌∷◌, ◌++◌, codes, Option}
use Rattle.std.proofs.Common.{Some, None, refl, sym, ap, ◌∙◌, append-nil, arith}
use Rattle.java_tree.specs.declared.words.Spelled.{Spelled}
use Rattle.java_tree.specs.Trees.{Annotation}
use Rattle.java_parser_types.specs.declared.error.ReadError.{ReadError}
use Rattle.java_parser_types.specs.declared.error.ReadError.TheVariants.{Memory, Unformed}
use Rattle.java_parser_grammar.specs.Taking.{after_sign}
use Rattle.java_parser_grammar.specs.BalancedReading.{annotation_at, annotations_at}
use Rattle.java_parser_types.specs.Finishing.{finished}
use Rattle.java_parser_types.specs.Endings.{as_they_are}
use Rattle.java_parser_types.specs.ReadAnswer.{Fails}
use Rattle.java_parser_parts.proofs.LabelLoops.{alone}
use Rattle.java_parser_types.proofs.ReadLoops.{regroup}

some_more : (limit i : ℕ) → i < limit → limit - i ≡ suc (limit - (i + 1))
some_more limit i lt = omega arith

none_more : (limit i : ℕ) → limit ≤ i → limit - i ≡ 0
none_more limit i le = omega arith

module _ (total : Option (List Annotation × List Spelled)) (limit i : ℕ) (front : List Annotation) where
  pub annotation_goes_on : (x : Annotation) (here after rest : List Spelled) → i < limit
      → after_sign (codes "@") here ≡ Some after → annotation_at after ≡ Some (x, rest)
      → finished as_they_are front (annotations_at (limit - i) here) ≡ finished as_they_are [] total
      → finished as_they_are (front ++ x ∷ []) (annotations_at (limit - (i + 1)) rest) ≡ finished as_they_are [] total
  unfolding annotations_at
  annotation_goes_on x here after rest lt g h so_far =
      let k = some_more limit i lt in
      let one : finished as_they_are front (annotations_at (limit - i) here) ≡ finished as_they_are (front ++ x ∷ [])
      (annotations_at (limit - (i + 1)) rest) =
      rw (k, g, h) (regroup as_they_are front x (annotations_at (limit - (i + 1)) rest)) in
      sym one ∙ so_far

  pub annotation_fails : (e : ReadError) (here after : List Spelled) → i < limit
      → after_sign (codes "@") here ≡ Some after → Fails e (annotation_at after)
      → finished as_they_are front (annotations_at (limit - i) here) ≡ finished as_they_are [] total → Fails e total
  unfolding annotations_at
  annotation_fails Memory here after lt g h so_far = tt
  annotation_fails Unformed here after lt g h so_far =
      let k = some_more limit i lt in
      let one : finished as_they_are front (annotations_at (limit - i) here) ≡ None = rw (k, g, h) refl in
      sym (alone total) ∙ (sym so_far ∙ one)

  pub annotations_end : (rest : List Spelled) → i < limit → after_sign (codes "@") rest ≡ None
      → finished as_they_are front (annotations_at (limit - i) rest) ≡ finished as_they_are [] total
      → total ≡ Some (front, rest)
  unfolding annotations_at
  annotations_end rest lt h so_far =
      let k = some_more limit i lt in
      let one : finished as_they_are front (annotations_at (limit - i) rest) ≡ Some (front, rest) =
      rw (k, h) (ap (λ (xs : List Annotation). Some (xs, rest)) (append-nil front)) in
      sym (alone total) ∙ (sym so_far ∙ one)

  pub annotations_run_out : (rest : List Spelled) → limit ≤ i → finished as_they_are front (annotations_at (limit - i)
      rest) ≡ finished as_they_are [] total → total ≡ None
  unfolding annotations_at
  annotations_run_out rest le so_far =
      let k = none_more limit i le in
      let one : finished as_they_are front (annotations_at (limit - i) rest) ≡ None = rw k refl in
      sym (alone total) ∙ (sym so_far ∙ one)
