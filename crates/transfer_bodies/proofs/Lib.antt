pub mod StillCode
pub mod ShorterCode
pub mod KeptParts
pub mod WhatIsMade
pub mod ReachingCode
