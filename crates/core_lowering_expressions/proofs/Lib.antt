pub mod AccessParts
pub mod CallParts
pub mod Joined
pub mod TouchParts
pub mod Made
pub mod OtherForms
pub mod ExpressionForms
pub mod FieldsBegun
