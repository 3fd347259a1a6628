pub mod Rule
pub mod Drive
pub mod Profile
pub mod Claims
pub mod Ready
