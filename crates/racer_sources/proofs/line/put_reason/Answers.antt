use Rattle.racer_sources.proofs.line.put_reason.Goals as goal

pub returns-in-TooManyFiles : goal.returns-in-TooManyFiles
returns-in-TooManyFiles c = rw c.in-TooManyFiles.is c.put_too_many.ensures

pub returns-in-TooLong : goal.returns-in-TooLong
returns-in-TooLong c = rw c.in-TooLong.is c.put_too_long.ensures

pub returns-in-TooManyBytes : goal.returns-in-TooManyBytes
returns-in-TooManyBytes c = rw c.in-TooManyBytes.is c.put_too_many-in-TooManyBytes.ensures

pub returns-in-NotUtf8 : goal.returns-in-NotUtf8
returns-in-NotUtf8 c = rw c.in-NotUtf8.is c.put_not_utf8.ensures

pub returns-in-BadCharacter : goal.returns-in-BadCharacter
returns-in-BadCharacter c = rw c.in-BadCharacter.is c.put_at_place.ensures

pub returns-in-Unclosed : goal.returns-in-Unclosed
returns-in-Unclosed c = rw c.in-Unclosed.is c.put_at_place-in-Unclosed.ensures

pub returns-in-BadLiteral : goal.returns-in-BadLiteral
returns-in-BadLiteral c = rw c.in-BadLiteral.is c.put_at_place-in-BadLiteral.ensures

pub returns-in-Unbalanced : goal.returns-in-Unbalanced
returns-in-Unbalanced c = rw c.in-Unbalanced.is c.put_at_place-in-Unbalanced.ensures

pub returns-in-TooDeep : goal.returns-in-TooDeep
returns-in-TooDeep c = rw c.in-TooDeep.is c.put_at_place-in-TooDeep.ensures

pub returns-in-NotAUnit : goal.returns-in-NotAUnit
returns-in-NotAUnit c = rw c.in-NotAUnit.is c.put_at_place-in-NotAUnit.ensures

pub returns-in-DuplicateClass : goal.returns-in-DuplicateClass
returns-in-DuplicateClass c = rw c.in-DuplicateClass.is c.put_duplicate.ensures

pub returns-in-DuplicateField : goal.returns-in-DuplicateField
returns-in-DuplicateField c = rw c.in-DuplicateField.is c.put_duplicate-in-DuplicateField.ensures

pub returns-in-TooManyClasses : goal.returns-in-TooManyClasses
returns-in-TooManyClasses c = rw c.in-TooManyClasses.is c.put_too_many-in-TooManyClasses.ensures

pub returns-in-TooManyMethods : goal.returns-in-TooManyMethods
returns-in-TooManyMethods c = rw c.in-TooManyMethods.is c.put_too_many-in-TooManyMethods.ensures

pub returns-in-TooManyCalls : goal.returns-in-TooManyCalls
returns-in-TooManyCalls c = rw c.in-TooManyCalls.is c.put_too_many-in-TooManyCalls.ensures
