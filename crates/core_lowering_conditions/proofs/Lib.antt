mod Parts
mod EachToken
mod TokenPlaces
mod MemberPlaces
mod UnitPlaces
mod NamedTokens
mod UnitNames
