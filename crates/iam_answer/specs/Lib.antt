pub mod Answer
pub mod Asking
pub mod NodeAnswers
pub mod Replies
