pub mod KindNumbers
pub mod HeaderFields
pub mod OrderNumbers
pub mod FirstNumbers
pub mod RecordPlaces
