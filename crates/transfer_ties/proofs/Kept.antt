-- What has the same numbers in a newer program.
use Rattle.std.proofs.Common.{◌≡◌, ℕ, true, Some, None, sym, ap, ◌∙◌}
use Rattle.std.specs.Prelude.{Option, option_map}
use Rattle.std.proofs.lemmas.Bool.{eqb-true, false≢true}
use Rattle.racer_base.specs.declared.ids.ClassId.{ClassId}
use Rattle.racer_base.specs.declared.ids.FieldId.{FieldId}
use Rattle.access_paths.specs.declared.path.Path.{Path}
use Rattle.access_domain.specs.declared.access.Access.{Access}
use Rattle.access_domain.specs.declared.summary.Summary.{Summary}
use Rattle.transfer_ties.specs.declared.partners.Ties.{Ties}
use Rattle.transfer_ties.specs.Names.{is_partner_class, is_partner_field, set_in}
use Rattle.transfer_ties.specs.Partners.{access_in, accesses_in, fields_in, path_in, root_in, summary_in, value_in}
use Rattle.transfer_ties.proofs.OneToOne.{class_id, field_id}
use Rattle.transfer_ties.proofs.Records.{path_given, summary_given}

pub class_is : (o : Option ClassId) (c : ClassId) → is_partner_class o c ≡ true → o ≡ Some c
class_is None c h = absurd (false≢true h)
class_is (Some d) c h = ap (λ (n : ℕ). Some (class_id n)) (eqb-true d.0 c.0 h)

pub field_is : (o : Option FieldId) (f : FieldId) → is_partner_field o f ≡ true → o ≡ Some f
field_is None f h = absurd (false≢true h)
field_is (Some g) f h = ap (λ (n : ℕ). Some (field_id n)) (eqb-true g.0 f.0 h)

module _ (ties : Ties) where
  pub path_kept : (p : Path) → root_in ties p.root ≡ Some p.root → fields_in ties p.fields ≡ Some p.fields →
      path_in ties p ≡ Some p
  path_kept p root fields = path_given ties p p.root p.fields root fields

  abbrev with_path : Access → Path → Access
  with_path a path = record a { path = path }

  pub access_kept : (a : Access) → path_in ties a.path ≡ Some a.path → access_in ties a ≡ Some a
  access_kept a path = ap (option_map (with_path a)) path

  pub summary_kept : (s : Summary) → accesses_in ties s.accesses ≡ Some s.accesses →
      set_in ties s.wobbly ≡ Some s.wobbly → value_in ties s.result ≡ Some s.result → summary_in ties s ≡ Some s
  summary_kept s accesses wobbly result = summary_given ties s s.accesses s.wobbly s.result accesses wobbly result

pub class_kept : (found o : Option ClassId) (c : ClassId) → found ≡ o → is_partner_class found c ≡ true → o ≡ Some c
class_kept found o c is h = sym is ∙ class_is found c h

pub field_kept : (found o : Option FieldId) (f : FieldId) → found ≡ o → is_partner_field found f ≡ true → o ≡ Some f
field_kept found o f is h = sym is ∙ field_is found f h
