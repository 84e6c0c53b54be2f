use Rattle.core_code.proofs.FieldNames.{content-of, content-differs, field_name-no-dot, field_name-no-number-sign}
use Rattle.core_code.proofs.laws.field_names_stand_in_texts.Goals as goal

pub returns-clause-of_identifiers : goal.returns-clause-of_identifiers
returns-clause-of_identifiers c = content-of

pub returns-clause-contents_differ : goal.returns-clause-contents_differ
returns-clause-contents_differ c = content-differs

pub returns-clause-no_dot : goal.returns-clause-no_dot
returns-clause-no_dot c = field_name-no-dot

pub returns-clause-no_number_sign : goal.returns-clause-no_number_sign
returns-clause-no_number_sign c = field_name-no-number-sign
