pub mod Rules
pub mod States
pub mod Made
pub mod After
pub mod Tests
