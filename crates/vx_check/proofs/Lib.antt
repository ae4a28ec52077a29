pub mod Courses
pub mod EndedText
pub mod Judging
pub mod Lines
pub mod OneVerdict
pub mod RunJudged
pub mod TextJudged
