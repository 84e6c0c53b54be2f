mod LastParts
mod LockParts
