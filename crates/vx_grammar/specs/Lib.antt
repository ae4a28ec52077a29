pub mod Grammar
pub mod Declared
pub mod LineFault
pub mod UnknownName
pub mod FirstFault
